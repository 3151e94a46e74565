-- Elements of one class have the same digits of their class.
use Rattle.std.proofs.Common.{ℕ, List, get_or, subst}
use Rattle.std.specs.List.{ContainsAt as Has}
use Rattle.std.proofs.ByRecursion.{has_get_or}
use Rattle.ring.specs.Elem.{Elem, 𝟘}
use Rattle.ring.specs.System.{System, pow}
use Rattle.ring.specs.Class.{SameClass}
use Rattle.ring.proofs.Classes.{mod_chain, mod_flip}
use Rattle.digits.specs.Stepping.{FirstOf}

module _ (s : System) (w : ℕ) where
  pub class_shared : (z near d : Elem) → SameClass s w z near → SameClass s w z d → SameClass s w near d
  class_shared z near d c a = let b = pow s s.β w in mod_chain s b near z d (mod_flip s b z near c) a

  pub first_shared : (ds : List Elem) (z near d : Elem) → SameClass s w z near → FirstOf s w ds near d → FirstOf s w ds z d
  first_shared ds z near d c f = (f.0, f.1, f.2, mod_chain s (pow s s.β w) z near d c f.3, λ j l a. f.4 j l (class_shared z near (get_or ds j 𝟘) c a))

  pub first_held : (ds : List Elem) (z d : Elem) → FirstOf s w ds z d → Has ds d
  first_held ds z d f = subst (Has ds) f.2 (has_get_or ds f.0 𝟘 f.1)
