-- Laws of words and their fields, for the proofs of the crates above.
pub mod FieldWords
pub mod KindWords
pub mod Numbers
use Rattle.std.specs.Prelude.{◌≡◌, ℕ}
use Rattle.bz_word.specs.Kinds.{word, kind, IsKind, IsWord}
use Rattle.bz_word.specs.Statuses.{status_word, status, IsStatus, IsStatusWord}
use Rattle.bz_word.specs.Metas.{meta_word, meta, IsMeta, IsMetaWord}
use Rattle.bz_word.specs.Headers.{header_word, header, IsHeader, IsHeaderWord}
use Rattle.bz_word.specs.Statements.{IsCodec, KindsDifferInWords, TagsDifferInWords, ValuesAreTheirWords, DirtyBitIsAdded, FieldsHoldNumbers, FieldsPartWords}
use Rattle.bz_word.specs.declared.kind.WordKind.{WordKind}
use Rattle.bz_word.specs.declared.status.Status.{Status}
use Rattle.bz_word.specs.declared.meta.Meta.{Meta}
use Rattle.bz_word.specs.declared.header.Header.{Header}
use Rattle.bz_word.proofs.Lemmas.Numbers.{field-at, at-field}
use Rattle.bz_word.proofs.Lemmas.KindWords.{word-injective, tag-injective, value-word, dirty-word, kind-word, word-kind, IsKind-kind, IsWord-word}
use Rattle.bz_word.proofs.Lemmas.FieldWords.{status-codec, meta-codec, header-codec}

pub kinds : IsCodec WordKind IsKind IsWord word kind
kinds = record { lawful = IsWord-word; value = kind-word; range = IsKind-kind; word = word-kind }

pub statuses : IsCodec Status IsStatus IsStatusWord status_word status
statuses = status-codec

pub metas : IsCodec Meta IsMeta IsMetaWord meta_word meta
metas = meta-codec

pub headers : IsCodec Header IsHeader IsHeaderWord header_word header
headers = header-codec

pub kinds_differ : KindsDifferInWords
kinds_differ = word-injective

pub tags_differ : TagsDifferInWords
tags_differ = tag-injective

pub values : ValuesAreTheirWords
values = value-word

pub dirty_bit : DirtyBitIsAdded
dirty_bit = dirty-word

pub fields_hold : FieldsHoldNumbers
fields_hold = field-at

pub fields_part : FieldsPartWords
fields_part = at-field
