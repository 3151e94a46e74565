use Rattle.std.proofs.Common.{sym, subst}
use Rattle.sheet.specs.declared.line.System.{System}
use Rattle.transcript.specs.Engines.{setting_of}
use Rattle.transcript.specs.Transcript.{Starts}
use Rattle.transcript.proofs.opening.open.Goals as goal

pub returns-in-Kp : goal.returns-in-Kp
returns-in-Kp g c =
    let q = c.args.choice in
    let s = c.start.ensures in
    (s.0, subst (λ (n : System). Starts (setting_of n) q.modulus q.root q.start c.args.rest.lines s.0) (sym c.in-Kp.is) s.1, s.2)

pub returns-in-Km : goal.returns-in-Km
returns-in-Km g c =
    let q = c.args.choice in
    let s = c.start-in-Km.ensures in
    (s.0, subst (λ (n : System). Starts (setting_of n) q.modulus q.root q.start c.args.rest.lines s.0) (sym c.in-Km.is) s.1, s.2)

pub returns-in-G5 : goal.returns-in-G5
returns-in-G5 g c =
    let q = c.args.choice in
    let s = c.start-in-G5.ensures in
    (s.0, subst (λ (n : System). Starts (setting_of n) q.modulus q.root q.start c.args.rest.lines s.0) (sym c.in-G5.is) s.1, s.2)
