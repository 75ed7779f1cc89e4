use Rattle.cs_core.proofs.Members.{legal_choice, listed_after, not_refused, listed, sorted, rising}
use Rattle.cs_core.proofs.laws.choices_are_legal_events.Goals as goal

pub returns-clause-choice : goal.returns-clause-choice
returns-clause-choice c p h e in_list = legal_choice p h e in_list

pub returns-clause-legal : goal.returns-clause-legal
returns-clause-legal c p h e legal may = listed_after p h e legal may

pub returns-clause-refused : goal.returns-clause-refused
returns-clause-refused c p s e in_list = not_refused p s e in_list

pub returns-clause-listed : goal.returns-clause-listed
returns-clause-listed c p s e civil free = listed p s e civil free

pub returns-clause-sorted : goal.returns-clause-sorted
returns-clause-sorted c rs = sorted rs

pub returns-clause-rising : goal.returns-clause-rising
returns-clause-rising c p h = rising p h
