-- Look-ups go on where their worker is alone: a descent, a look-up of a key in a leaf, a reading of a leaf.
use Rattle.bz_descend.specs.SeekDuties as seek
use Rattle.bz_descend.specs.declared.seek.Seek.{Seek}
use Rattle.bz_any_task.specs.FromFind.Duties as find
use Rattle.bz_any_task.specs.FromFind.Find.{Find}
use Rattle.bz_leaf.specs.Duties as leaf
use Rattle.bz_leaf.specs.declared.read_leaf.ReadLeaf.{ReadLeaf}
use Rattle.bz_undisturbed.specs.Undisturbed.{GoesOnUndisturbed}

abbrev pub SeeksGoOn : Type 0
SeeksGoOn = (t : Seek) → GoesOnUndisturbed 0 t.config (seek.asks_of t) (seek.facts_of t) (seek.differs_of t)

abbrev pub FindsGoOn : Type 0
FindsGoOn = (t : Find) → GoesOnUndisturbed 0 t.config (find.asks_of t) (find.facts_of t) (find.differs_of t)

abbrev pub ReadingsGoOn : Type 0
ReadingsGoOn = (t : ReadLeaf) → GoesOnUndisturbed 0 t.config (leaf.asks_of t) (leaf.facts_of t) (leaf.differs_of t)
