use Rattle.sheet.proofs.number.NumberClone.clone.Goals as goal

pub returns : goal.returns
returns g c =
    let n = c.args.self.now in
    let made : g.N.Numeral.denotes n.field.text.now n.value = _ in
    record {
      cases = λ i. record { field = n.field; value = n.value; denotes = g.N.Numeral.once n.field.text.now n.value made n.denotes i };
    }
