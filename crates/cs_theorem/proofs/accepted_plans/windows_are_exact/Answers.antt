use Rattle.cs_theorem.specs.Windows.{holders}
use Rattle.cs_theorem.specs.Accepted.{reach_in, windows_on_days, window_on}
use Rattle.cs_windows.proofs.Members.{has_contains, contains_has}
use Rattle.cs_theorem.proofs.Calm.{put, only}
use Rattle.cs_theorem.proofs.accepted_plans.windows_are_exact.Goals as goal

pub returns-clause-all : goal.returns-clause-all
returns-clause-all c p on a n d m first r plan by long ok lt is h = has_contains (holders m (windows_on_days p a first n)) (window_on p (reach_in p a) d r) (put p plan on by a n long ok d m first lt is r h)

pub returns-clause-only : goal.returns-clause-only
returns-clause-only c p on a n d m first w plan by long ok lt is h = only p plan on by a n long ok d m first lt is w (contains_has (holders m (windows_on_days p a first n)) w h)
