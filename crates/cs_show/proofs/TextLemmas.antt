-- A text that is made part by part.
use Rattle.std.proofs.Common.{◌≡◌, ℕ, List, ◌++◌, ◌∙◌, ap, append_assoc}

pub two_parts : (old mid new x y : List ℕ) → mid ≡ old ++ x → new ≡ mid ++ y → new ≡ old ++ (x ++ y)
two_parts old mid new x y e f = f ∙ ap (λ t. t ++ y) e ∙ append_assoc old x y

pub three_parts : (old one two new x y z : List ℕ) → one ≡ old ++ x → two ≡ one ++ y → new ≡ two ++ z → new ≡ old ++ (x ++ (y ++ z))
three_parts old one two new x y z e f g = two_parts old one new x (y ++ z) e (two_parts one two new y z f g)
