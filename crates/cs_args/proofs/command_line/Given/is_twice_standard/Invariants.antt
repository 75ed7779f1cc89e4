use Rattle.std.proofs.Common.{◌≡◌, ◌≤◌, ◌+◌, drop, fold, map}
use Rattle.std.specs.Prelude.{count_by, sum_by}
use Rattle.cs_args.specs.CommandLine.{is_dash, values_in}
use Rattle.cs_args.specs.Table.{words_given}
use Rattle.cs_args.proofs.command_line.Given.is_twice_standard.Given as goal

-- with those of the arguments that are left they are all
pub record SoFar (l : goal.Live-loop-id) : Type 0 where
  pub few : l.dashes ≤ 1
  pub all : fold (λ a id. a + count_by is_dash (values_in id (words_given l.self))) l.dashes (map (λ id. id.now) (drop l.id-index l.ids))
      ≡ sum_by (λ id. count_by is_dash (values_in id (words_given l.self))) (map (λ id. id.now) l.ids)

abbrev pub invariant-loop-id : goal.invariant-loop-id
invariant-loop-id l = SoFar l
