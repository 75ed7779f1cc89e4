use Rattle.cs_history.proofs.Names.{named_start, named_step, named, apart}
use Rattle.cs_history.proofs.Started.{never_twice}
use Rattle.cs_history.proofs.laws.names_differ.Goals as goal

pub returns-clause-start : goal.returns-clause-start
returns-clause-start c p s = named_start p s

pub returns-clause-step : goal.returns-clause-step
returns-clause-step c p s e free k = named_step p s e free k

pub returns-clause-history : goal.returns-clause-history
returns-clause-history c p h legal = named p h legal

pub returns-clause-apart : goal.returns-clause-apart
returns-clause-apart c p s k = apart p s k

pub returns-clause-started : goal.returns-clause-started
returns-clause-started c p h unowed legal = never_twice p unowed h legal
