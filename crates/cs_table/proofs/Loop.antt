-- Reading lines one after the other, as the loop does.
use Rattle.std.proofs.Common.{◌≡◌, ℕ, ◌+◌, List, ◌∷◌, [], Result, Ok, Err, refl}
use Rattle.cs_table.specs.declared.fault.Wrong.{Wrong}
use Rattle.cs_table.specs.Table.{found_at, lines_from}

module _ {Table Fault : Type 0} (added : ℕ → Table → List ℕ → Result Table (Wrong Fault)) (number : ℕ) (table : Table) where
  pub goes_on : (more : Table) (line : List ℕ) (lines : List (List ℕ)) → added number table line ≡ Ok more → lines_from added (number + 1) more lines ≡ lines_from added number table (line ∷ lines)
  unfolding lines_from
  goes_on more line lines is = rw is refl

  pub ends : (wrong : Wrong Fault) (line : List ℕ) (lines : List (List ℕ)) → added number table line ≡ Err wrong → lines_from added number table (line ∷ lines) ≡ Err (found_at number line wrong)
  unfolding lines_from
  ends wrong line lines fails = rw fails refl

  pub is_done : lines_from added number table [] ≡ Ok table
  unfolding lines_from
  is_done = refl
