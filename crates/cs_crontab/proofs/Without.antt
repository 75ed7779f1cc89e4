-- A table without some of its lines is in order.
use Rattle.std.proofs.Common.{ℕ, ◌<◌, ◌==◌, Bool, not, List, arith}
use Rattle.std.specs.List.{list_any}
use Rattle.std.proofs.lemmas.List.Kept.{AllPairs-filter}
use Rattle.std.proofs.lemmas.List.Sums.{length-filter, count_by-le-length}
use Rattle.cs_crontab.specs.Crontab.{CommandLine, Table, IsOrdered, without}

pub without_ordered : (numbers : List ℕ) (table : Table) → IsOrdered table → IsOrdered (without numbers table)
without_ordered numbers table o =
    let kept : CommandLine → Bool = λ line. not (list_any (λ n. n == line.number) numbers) in
    record {
      few = omega (arith, o.few, length-filter kept table.lines, count_by-le-length kept table.lines);
      rising = AllPairs-filter (λ x y. x.number < y.number) kept table.lines o.rising;
      settings_rising = o.settings_rising;
    }
