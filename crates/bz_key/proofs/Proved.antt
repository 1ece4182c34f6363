-- What this crate proves, as lemmas that other crates cite by these names.
use Rattle.bz_key.proofs.PackingLaws.{length-packed, packed-injective, packed-small}
use Rattle.bz_key.proofs.ReaderLaws.{key_of_word-exact, payload_of_word-exact}
use Rattle.bz_key.proofs.SpellingLaws.{spelled-injective, spelled-plain}
use Rattle.bz_key.proofs.UnpackingLaws.{unpacked_key-exact, unpacked_payload-exact}
use Rattle.bz_key.specs.Laws.{KeysAreRead, KeysAreUnpacked, PackingIsInjective, PackingIsSmall, PayloadsAreRead, PayloadsAreUnpacked, SpellingIsInjective, SpellingIsPlain}

-- how many words a packing has, and that none has a bit above 55
pub packing_is_small : PackingIsSmall
packing_is_small = λ bytes each. (length-packed bytes, packed-small bytes each)

-- bytes of one length have different words
pub packing_is_injective : PackingIsInjective
packing_is_injective = packed-injective

-- words are read as a key exactly where they are its packing
pub keys_are_unpacked : KeysAreUnpacked
keys_are_unpacked = unpacked_key-exact

-- words are read as a payload exactly where they are its packing
pub payloads_are_unpacked : PayloadsAreUnpacked
payloads_are_unpacked = unpacked_payload-exact

-- a word is read as a key exactly where it is its spelling
pub keys_are_read : KeysAreRead
keys_are_read = key_of_word-exact

-- a word is read as a payload exactly where it is its spelling
pub payloads_are_read : PayloadsAreRead
payloads_are_read = payload_of_word-exact

-- different bytes have different spellings
pub spelling_is_injective : SpellingIsInjective
spelling_is_injective = spelled-injective

-- a spelling has no space, line feed, `=` or other byte than those of the plain ones and `%`
pub spelling_is_plain : SpellingIsPlain
spelling_is_plain = spelled-plain
