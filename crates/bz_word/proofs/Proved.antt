-- What this crate proves, as lemmas that other crates cite by these names.
use Rattle.bz_word.proofs.Lemmas.{dirty_bit as dirty_bit-holds, fields_hold as fields_hold-holds, fields_part as fields_part-holds, headers as headers-holds, kinds as kinds-holds, kinds_differ as kinds_differ-holds, metas as metas-holds, statuses as statuses-holds, tags_differ as tags_differ-holds, values as values-holds}
use Rattle.bz_word.specs.Headers.{IsHeader, IsHeaderWord, header, header_word}
use Rattle.bz_word.specs.Kinds.{IsKind, IsWord, kind, word}
use Rattle.bz_word.specs.Metas.{IsMeta, IsMetaWord, meta, meta_word}
use Rattle.bz_word.specs.Statements.{DirtyBitIsAdded, FieldsHoldNumbers, FieldsPartWords, IsCodec, KindsDifferInWords, TagsDifferInWords, ValuesAreTheirWords}
use Rattle.bz_word.specs.Statuses.{IsStatus, IsStatusWord, status, status_word}
use Rattle.bz_word.specs.declared.header.Header.{Header}
use Rattle.bz_word.specs.declared.kind.WordKind.{WordKind}
use Rattle.bz_word.specs.declared.meta.Meta.{Meta}
use Rattle.bz_word.specs.declared.status.Status.{Status}

-- a kind and its word determine each other
pub kinds : IsCodec WordKind IsKind IsWord word kind
kinds = kinds-holds

-- a status and its word determine each other
pub statuses : IsCodec Status IsStatus IsStatusWord status_word status
statuses = statuses-holds

-- what is said of a record and its metadata word determine each other
pub metas : IsCodec Meta IsMeta IsMetaWord meta_word meta
metas = metas-holds

-- a header and its word determine each other
pub headers : IsCodec Header IsHeader IsHeaderWord header_word header
headers = headers-holds

-- two different kinds never share a word
pub kinds_differ : KindsDifferInWords
kinds_differ = kinds_differ-holds

-- tags with different fields never share a word
pub tags_differ : TagsDifferInWords
tags_differ = tags_differ-holds

-- a plain value is its own word
pub values : ValuesAreTheirWords
values = values-holds

-- the dirty bit is set by adding 2^63, and cleared by leaving it out
pub dirty_bit : DirtyBitIsAdded
dirty_bit = dirty_bit-holds

-- a number below 2^width, put at a place, is what the field there holds
pub fields_hold : FieldsHoldNumbers
fields_hold = fields_hold-holds

-- a word is put together again from a field and what stands above and below it
pub fields_part : FieldsPartWords
fields_part = fields_part-holds
