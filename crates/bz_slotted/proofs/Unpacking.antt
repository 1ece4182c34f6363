-- What a word that was unpacked, or could not be, says.
use Rattle.std.proofs.Common.{◌≡◌, ℕ, ◌^◌, ◌<◌, Bool, true, false, if◌then◌else◌, arith, refl, sym, ap, ◌∙◌}
use Rattle.std.proofs.lemmas.Bool.Decides.{nat_tests}
use Rattle.bz_word.specs.Headers.{header, header_word, IsHeader}
use Rattle.bz_word.proofs.Lemmas.{headers, metas, statuses}
use Rattle.bz_word.specs.Metas.{meta, meta_word, IsMeta, IsMetaWord}
use Rattle.bz_word.specs.Statuses.{status, status_word, IsStatus}
use Rattle.bz_word.specs.declared.header.Header.{Header}
use Rattle.bz_word.specs.declared.meta.Meta.{Meta}
use Rattle.bz_word.specs.declared.meta.Meta.TheVariants.{Unused}
use Rattle.bz_word.specs.declared.status.Status.{Status}
use Rattle.bz_slotted.specs.Page.{is_meta_word, meta_of}
use Rattle.bz_slotted.proofs.Lists.{meta-unpacks}

pub header-is : (h : Header) (x : ℕ) → IsHeader h → header_word h ≡ x → h ≡ header x
header-is h x fits word = sym (headers.value h fits) ∙ ap header word

pub status-is : (s : Status) (x : ℕ) → IsStatus s → status_word s ≡ x → s ≡ status x
status-is s x fits word = sym (statuses.value s fits) ∙ ap status word

pub header-fits : (h : Header) (x : ℕ) → IsHeader h → header_word h ≡ x → x < 2 ^ 32
header-fits h x fits word = rw (← word) (headers.lawful h fits)

pub status-fits : (s : Status) (x : ℕ) → IsStatus s → status_word s ≡ x → x < 2 ^ 61
status-fits s x fits word = rw (← word) (statuses.lawful s fits)

pub meta-some : (m : Meta) (x : ℕ) → IsMeta m → meta_word m ≡ x → m ≡ meta_of x
meta-some m x fits word = let h : IsMetaWord x = rw (← word) (metas.lawful m fits) in sym (metas.value m fits) ∙ ap meta word ∙ sym (meta-unpacks x h)

pub meta-none : (x : ℕ) → (IsMetaWord x → ⊥) → Unused ≡ meta_of x
unfolding meta_of
meta-none x h = go (is_meta_word x) refl
  where
    lawful : is_meta_word x ≡ true → IsMetaWord x
    lawful t = record { control = grind (arith, nat_tests); lengths = grind (arith, nat_tests); offset = λ v. grind (arith, nat_tests) }

    go : (b : Bool) → is_meta_word x ≡ b → Unused ≡ if b then meta x else Unused
    go true t = absurd (h (lawful t))
    go false t = refl
