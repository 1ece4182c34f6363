-- Status, metadata and header words: reading one undoes writing it, and writing one undoes reading it.
use Rattle.std.proofs.Common.{◌≡◌, ℕ, arith}
use Rattle.std.proofs.lemmas.Grind.{common_steps}
use Rattle.bz_word.specs.Statements.{IsCodec}
use Rattle.bz_word.specs.Statuses.{status_word, status, IsStatus, IsStatusWord}
use Rattle.bz_word.specs.Metas.{meta_word, meta, IsMeta, IsMetaWord}
use Rattle.bz_word.specs.Headers.{header_word, header, IsHeader, IsHeaderWord}
use Rattle.bz_word.specs.declared.status.Status.{Status}
use Rattle.bz_word.specs.declared.meta.Meta.{Meta}
use Rattle.bz_word.specs.declared.meta.Meta.TheVariants.{Unused, Reserved, Visible, Deleted}
use Rattle.bz_word.specs.declared.header.Header.{Header}

pub status-codec : IsCodec Status IsStatus IsStatusWord status_word status
unfolding status
status-codec = record {
  lawful = λ s p. grind (arith, common_steps);
  value = λ s p. grind (arith, common_steps);
  range = λ x p. grind (arith, common_steps);
  word = λ x p. grind (arith, common_steps);
}

pub header-codec : IsCodec Header IsHeader IsHeaderWord header_word header
unfolding header
header-codec = record {
  lawful = λ h p. grind (arith, common_steps);
  value = λ h p. grind (arith, common_steps);
  range = λ x p. grind (arith, common_steps);
  word = λ x p. grind (arith, common_steps);
}

lawful-meta : (m : Meta) → IsMeta m → IsMetaWord (meta_word m)
lawful-meta Unused p = grind (arith, common_steps)
lawful-meta (Reserved e) p = grind (arith, common_steps)
lawful-meta (Visible e) p = grind (arith, common_steps)
lawful-meta (Deleted key total) p = grind (arith, common_steps)

meta-word : (m : Meta) → IsMeta m → meta (meta_word m) ≡ m
unfolding meta
meta-word Unused p = grind (arith, common_steps)
meta-word (Reserved e) p = grind (arith, common_steps)
meta-word (Visible e) p = grind (arith, common_steps)
meta-word (Deleted key total) p = grind (arith, common_steps)

IsMeta-meta : (x : ℕ) → IsMetaWord x → IsMeta (meta x)
unfolding meta
IsMeta-meta x p = grind (arith, common_steps)

word-meta : (x : ℕ) → IsMetaWord x → meta_word (meta x) ≡ x
unfolding meta
word-meta x p = grind (arith, common_steps)

pub meta-codec : IsCodec Meta IsMeta IsMetaWord meta_word meta
meta-codec = record { lawful = lawful-meta; value = meta-word; range = IsMeta-meta; word = word-meta }
