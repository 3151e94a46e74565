-- A call that is made through `perform` answers as the call does.
use Rattle.std.proofs.Common.{◌≡◌, ℕ, ℤ, Ok, Err, sym, refl, subst, subst₂}
use Rattle.refusals.specs.declared.Refusal.{Refusal}
use Rattle.numbers.specs.declared.elements.Element.{Element}
use Rattle.rules.specs.Views.{Setting, Machine, View}
use Rattle.rules.specs.Told.{Tells, Puts, Takes, Down}
use Rattle.rules.specs.declared.calls.Answer.TheVariants.{Held, Refused}
use Rattle.rules.specs.declared.calls.Call.{Call}
use Rattle.rules.specs.declared.calls.Call.TheVariants.{Put, Take, Load}

module _ {E C : Type 0} (k : Setting) (M : Machine E C) (v w : View E) (c : Call) where
  pub tells_put : (x y a b : ℤ) (n : ℕ) → c ≡ Put x y → a ≡ x → b ≡ y → Puts k M v w a b n → Tells k M v w c (Held n)
  tells_put x y a b n e p q h = subst (λ d. Tells k M v w d (Held n)) (sym e) (Ok n, refl, subst₂ (λ r s. Puts k M v w r s n) p q h)

  pub tells_take : (x y a b : ℤ) (n : ℕ) → c ≡ Take x y → a ≡ x → b ≡ y → Takes k M v w a b n → Tells k M v w c (Held n)
  tells_take x y a b n e p q h = subst (λ d. Tells k M v w d (Held n)) (sym e) (Ok n, refl, subst₂ (λ r s. Takes k M v w r s n) p q h)

  pub tells_unloaded : (z a : Element ℤ) (r : Refusal) → c ≡ Load z → a ≡ z → Down k M v w (Load a) r → Tells k M v w c (Refused r)
  tells_unloaded z a r e p h = subst (λ d. Tells k M v w d (Refused r)) (sym e) (Err r, refl, subst (λ b. Down k M v w (Load b) r) p h)
