-- What residue engines show.
use Rattle.engine.specs.Meaning.{LawfulMeaning}
use Rattle.residue.specs.declared.ResidueEngine.{ResidueEngine}
use Rattle.residue.specs.Points.{lawful}
use Rattle.residue.specs.Made.{residue_machine}

pub engines_lawful : (e : ResidueEngine) → LawfulMeaning (residue_machine.meaning e)
engines_lawful e = lawful e.ring.t e.ring.n e.residues.modulus e.root e.start e.residues.ranged e.ring.ranged e.rooted e.below.1
