use Rattle.std.proofs.Common.{◌++◌, ◌∷◌, [], ap, subst, sym, ◌∙◌}
use Rattle.cs_locks.specs.Locks.{IsCounted}
use Rattle.cs_locks.specs.declared.hold.Hold.TheVariants.{Alone, Shared}
use Rattle.cs_locks.proofs.Counts.{nothing_more, alone_more, shared_more}
use Rattle.cs_locks.proofs.table.LockTable.add.Goals as goal

pub returns-in-Nothing : goal.returns-in-Nothing
returns-in-Nothing c hs counted = subst (λ h. IsCounted (hs ++ h ∷ []) c.args.self.now) (sym c.in-Nothing.is) (nothing_more c.args.self.now hs counted)

pub returns-in-Alone : goal.returns-in-Alone
returns-in-Alone c hs counted =
    alone_more (record { alone = c.self.inside.alone; shared = c.self.inside.shared }) hs c.args.hold c.from.result (c.in-Alone.is ∙ ap Alone (sym c.from.ensures)) c.requires.listed c.self.told.0
    (subst (λ t. IsCounted hs t) (sym c.self.view_is) counted)

pub returns-in-Shared : goal.returns-in-Shared
returns-in-Shared c hs counted =
    shared_more (record { alone = c.self.inside.alone; shared = c.self.inside.shared }) hs c.args.hold c.from-in-Shared.result (c.in-Shared.is ∙ ap Shared (sym c.from-in-Shared.ensures)) c.requires.listed c.self.told.1
    (subst (λ t. IsCounted hs t) (sym c.self.view_is) counted)
