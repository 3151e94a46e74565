use Rattle.std.proofs.Common.{◌≡◌, ℕ, suc, ◌+◌, ◌-◌, ◌*◌, ◌^◌, ◌≤◌, sym, ap, ◌∙◌, subst, mul_comm, add-one, arith}
use native.Mathlib.Nat.{pow-zero, pow-succ'}
use Rattle.ring.specs.System.{System}
use Rattle.ring.proofs.Bound.{power}
use Rattle.digits.proofs.Modulo.{power_small}
use Rattle.digits.proofs.residues.modulus.Given as given
use Rattle.digits.proofs.residues.modulus.Goals as goal

norm : (g : given.Over) → g.S.Ruled.BASE_NORM ≡ g.S.Ruled.ring.p
norm g = ap (λ (s : System). s.p) g.S.Ruled.ruled

pub loop-init : goal.loop-init
loop-init g c = sym (pow-zero g.S.Ruled.ring.p)

more : (g : given.Over) (c : goal.In-loop g) → c.loop.all * c.BASE_NORM-p.result ≡ g.S.Ruled.ring.p ^ (c.loop.counter + 1)
more g c =
    let p = g.S.Ruled.ring.p in
    ap (λ (k : ℕ). c.loop.all * k) (c.BASE_NORM-p.ensures ∙ norm g) ∙ ap (λ (k : ℕ). k * p) c.loop.invariant ∙ mul_comm (p ^ c.loop.counter) p ∙ sym (pow-succ' p c.loop.counter) ∙ ap (λ (k : ℕ). p ^ k) (sym (add-one c.loop.counter))

pub overflow_mul-all : goal.overflow_mul-all
overflow_mul-all g c =
    let s = power_small g.S.Ruled.ring.p (c.loop.counter + 1) g.S.Ruled.lawful.p_low g.S.Ruled.lawful.p_high (omega (arith, c.loop-test.true, c.places-end.ensures.most)) in
    record { fits = omega (arith, s, more g c) }

pub loop-preserved : goal.loop-preserved
loop-preserved g c = more g c

pub returns : goal.returns
returns g c =
    let p = g.S.Ruled.ring.p in
    let w = c.args.width.places in
    let e : c.loop.counter ≡ w = omega (arith, c.loop-test.false, c.places-end.ensures.is) in
    let is : c.loop.all ≡ p ^ w = c.loop.invariant ∙ ap (λ (k : ℕ). p ^ k) e in
    let o : w ≡ suc (w - 1) = omega (arith, c.args.width.some) in
    record {
      is = is;
      some = subst (λ (k : ℕ). 2 ≤ k) (sym (is ∙ ap (λ (k : ℕ). p ^ k) o)) (power p (w - 1) g.S.Ruled.lawful.p_low);
      most = subst (λ (k : ℕ). k ≤ 2 ^ 24) (sym is) (power_small p w g.S.Ruled.lawful.p_low g.S.Ruled.lawful.p_high c.args.width.most);
    }
