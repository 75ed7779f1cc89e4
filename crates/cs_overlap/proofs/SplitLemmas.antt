use Rattle.std.proofs.Common.{ℕ, ◌+◌, ◌<◌, ◌≡◌, ◌++◌, Bool, List, [], ◌∷◌, filter, map, take, length, get_or, cond, ap, ◌∙◌, sym}
use Rattle.std.proofs.Math.ListN.{get_or-map}
use Rattle.std.proofs.lemmas.List.Elements.{filter_more}
use Rattle.cs_windows.specs.declared.window.Window.{Window}
use Rattle.cs_overlap.specs.declared.role.Role.{Role}
use Rattle.cs_overlap.specs.declared.split.Share.{Share}
use Rattle.cs_overlap.specs.Roles.{nobody, role_at}
use Rattle.cs_overlap.specs.Split.{share_at, share_in}
use Rattle.cs_overlap.specs.Sums.{has_group_or_catches}

pub share_is : (roles : List Role) (shares : List Share) (j : ℕ) → shares ≡ map share_in roles → share_at shares j ≡ share_in (role_at roles j)
share_is roles shares j e = ap (λ (s : List Share). share_at s j) e ∙ get_or-map share_in roles j nobody

pub kept_more : (roles : List Role) (ws : List Window) (i : ℕ) (d : Window) → i < length ws → (b : Bool) → b ≡ has_group_or_catches roles (get_or ws i d) → (old new : List Window) → old ≡ filter (has_group_or_catches roles) (take i ws)
    → new ≡ old ++ cond b (get_or ws i d ∷ []) [] → new ≡ filter (has_group_or_catches roles) (take (i + 1) ws)
kept_more roles ws i d lt b e old new was is =
    let w = get_or ws i d in
    is ∙ (ap (λ (vs : List Window). vs ++ cond b (w ∷ []) []) was ∙ (ap (λ (c : Bool). filter (has_group_or_catches roles) (take i ws) ++ cond c (w ∷ []) []) e ∙ sym (filter_more (has_group_or_catches roles) ws i d lt)))
