use Rattle.std.proofs.Common.{inl, inr, refl}
use Rattle.cs_serve.proofs.Turns.{unserved}
use Rattle.cs_serve.specs.declared.obstacle.Obstacle.TheVariants.{NoHome, NoOutput, NotRoot}
use Rattle.cs_serve.proofs.serving.serve.Goals as goal

pub returns-in_default : goal.returns-in_default
returns-in_default g c = inl (inr (refl, c.run_out_unserved.ensures))

pub returns-then-is_none : goal.returns-then-is_none
returns-then-is_none g c = inl (unserved NoHome c.args.order _ _ _ _ _ c.refuse.ensures)

pub returns-then-not-is_root : goal.returns-then-not-is_root
returns-then-not-is_root g c = inl (unserved NotRoot c.args.order _ _ _ _ _ c.refuse-then-not-is_root.ensures)

pub returns-then-not-has_output : goal.returns-then-not-has_output
returns-then-not-has_output g c = inl (unserved NoOutput c.args.order _ _ _ _ _ c.refuse-then-not-has_output.ensures)

pub returns : goal.returns
returns g c = inl (unserved c.in-Err.obstacle c.args.order _ _ _ _ _ c.refuse-in-Err.ensures)
