-- What is read from the words of a node, place by place.
use Rattle.std.specs.Prelude.{◌≡◌, ℕ, ◌+◌, ◌<◌, ◌≤◌, List, length, map, take, drop, get_or}
use Rattle.std.specs.List.{sum_by}
use Rattle.std.proofs.Common.{arith, ap, sym, ◌∙◌}
use Rattle.std.proofs.lemmas.List.{get_or-map, get_or-take, get_or-drop, length-map, length-take, length-drop}
use Rattle.std.proofs.lemmas.List.Sums.{sum_by_more}
use Rattle.bz_layout.specs.declared.sizes.TheConstants.{NODE_WORDS, META_AT, SHARED_WORDS}
use Rattle.bz_word.specs.Metas.{meta, meta_word, IsMeta}
use Rattle.bz_word.specs.Statuses.{status, status_word, IsStatus}
use Rattle.bz_word.specs.Headers.{header, header_word, IsHeader}
use Rattle.bz_word.proofs.Lemmas.{headers, metas, statuses}
use Rattle.bz_word.specs.declared.header.Header.{Header}
use Rattle.bz_word.specs.declared.meta.Meta.{Meta}
use Rattle.bz_word.specs.declared.meta.Meta.TheVariants.{Unused}
use Rattle.bz_word.specs.declared.status.Status.{Status}
use Rattle.bz_node.specs.Reading.{count_in, meta_in, metas_in, words_shown}

-- a status, header or metadata that has this word is what the word says
pub status_is : (s : Status) (x : ℕ) → IsStatus s → status_word s ≡ x → s ≡ status x
status_is s x fits word = sym (statuses.value s fits) ∙ ap status word

pub header_is : (h : Header) (x : ℕ) → IsHeader h → header_word h ≡ x → h ≡ header x
header_is h x fits word = sym (headers.value h fits) ∙ ap header word

pub meta_is : (m : Meta) (x : ℕ) → IsMeta m → meta_word m ≡ x → m ≡ meta x
meta_is m x fits word = sym (metas.value m fits) ∙ ap meta word

-- the metadata words in use are as many as the status says
pub length-words_mapped : {B : Type 0} (f : ℕ → B) (words : List ℕ) (at n : ℕ) → at + n ≤ length words → length (map f (take n (drop at words))) ≡ n
length-words_mapped f words at n within = omega (arith, length-map (take n (drop at words)) f, length-take n (drop at words), length-drop at words)

pub get_or-words_mapped : {B : Type 0} (f : ℕ → B) (words : List ℕ) (at n i : ℕ) (d : B) → i < n → at + n ≤ length words → get_or (map f (take n (drop at words))) i d ≡ f (get_or words (at + i) 0)
get_or-words_mapped f words at n i d below within =
    let long : i < length (take n (drop at words)) = omega (arith, length-take n (drop at words), length-drop at words) in
    get_or-map f (take n (drop at words)) i 0 d long ∙ ap f (get_or-take n (drop at words) i 0 below ∙ get_or-drop at words i 0)

pub length-metas_in : (words : List ℕ) → length words ≡ NODE_WORDS → count_in words ≤ SHARED_WORDS → length (metas_in words) ≡ count_in words
length-metas_in words whole room = length-words_mapped meta words META_AT (count_in words) (omega arith)

pub get_or-metas_in : (words : List ℕ) (i : ℕ) (d : Meta) → length words ≡ NODE_WORDS → count_in words ≤ SHARED_WORDS → i < count_in words → get_or (metas_in words) i d ≡ meta_in words i
get_or-metas_in words i d whole room below = get_or-words_mapped meta words META_AT (count_in words) i d below (omega arith)

-- one record more of a sum
pub live_more : (words : List ℕ) (i : ℕ) → length words ≡ NODE_WORDS → count_in words ≤ SHARED_WORDS → i < count_in words →
    sum_by words_shown (take (i + 1) (metas_in words)) ≡ sum_by words_shown (take i (metas_in words)) + words_shown (meta_in words i)
live_more words i whole room below =
    let long = length-metas_in words whole room in
    sum_by_more words_shown (metas_in words) i Unused (omega (arith, long)) ∙ ap (λ m. sum_by words_shown (take i (metas_in words)) + words_shown m) (get_or-metas_in words i Unused whole room below)
