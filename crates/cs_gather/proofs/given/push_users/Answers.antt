use Rattle.std.proofs.Common.{◌≡◌, ◌+◌, ◌++◌, ◌∷◌, [], ℕ, List, Bor, arith, get_or, map, refl, sym, subst, take}
use Rattle.std.proofs.lemmas.Grind.{common_steps}
use Rattle.std.specs.List.{AllZip}
use Rattle.cs_gather.specs.Tables.{Given, IsUserFile, user_table}
use Rattle.cs_gather.proofs.PathLemmas.{one_more}
use Rattle.cs_gather.proofs.given.push_users.Goals as goal

pub loop-path-preserved : goal.loop-path-preserved
loop-path-preserved c =
    let (users, same, files) = c.loop-path.invariant in
    let i = c.loop-path.path-index in
    let path : Bor (List ℕ) = get_or c.args.paths.now i (record { ref_ptr = (0, 0); now = [] }) in
    let user : Given = user_table path.now c.last_part.result.now in
    let is : c.user.result ≡ user = grind (arith, common_steps) in
    let front = map (λ (p : Bor (List ℕ)). p.now) (take i c.args.paths.now) in
    let paths : map (λ (p : Bor (List ℕ)). p.now) (take (i + 1) c.args.paths.now) ≡ front ++ (path.now ∷ []) = grind (arith, common_steps) in
    let all : c.push.new.self.items ≡ c.args.tables.now.items ++ (users ++ (user ∷ [])) = grind (arith, common_steps) in
    (users ++ (user ∷ []), all, subst (λ (ps : List (List ℕ)). AllZip IsUserFile ps (users ++ (user ∷ []))) (sym paths) (one_more IsUserFile front users path.now user files (c.last_part.result.now, c.last_part.ensures, refl)))
