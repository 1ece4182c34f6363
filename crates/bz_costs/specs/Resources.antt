-- What a call takes of: the marks that it adds to the journal, the descriptors of its swaps, and the slots of the nodes that it makes.
pub data Resource : Type 0 where
  Marks : Resource
  Descriptors : Resource
  Slots : Resource
