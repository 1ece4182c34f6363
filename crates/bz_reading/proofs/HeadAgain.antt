-- The first line of a start image is read as that image.
use Rattle.std.proofs.Common.{◌≡◌, ◌<◌, ◌≤◌, ◌+◌, ◌-◌, ◌^◌, ◌==◌, nat_le, ◌&&◌, cond, ℕ, Bool, List, [], ◌∷◌, ◌++◌, length, replicate, Option, Some, None, option_and_then, refl, sym, ap, ◌∙◌, subst, inl, inr, IsUtf8, arith, append_assoc, length-append, zero, suc}
use Rattle.std.specs.Prelude.{slice_index, slice_set}
use Rattle.std.proofs.lemmas.Bool.{cases_Bool}
use Rattle.std.proofs.lemmas.Bool.Decides.{nat_tests}
use Rattle.serde_json.specs.Data.{Data}
use Rattle.serde_json.specs.View.{items_of}
use Rattle.serde_json.specs.Read.{read}
use Rattle.bz_layout.specs.Addresses.{words_of}
use Rattle.bz_layout.specs.Config.{IsConfig}
use Rattle.bz_layout.specs.declared.config.Config.{Config}
use Rattle.bz_reading.specs.Heads.{IsStart, told_config, config_in, item_number, placed, filled, start_items, start_in}
use Rattle.bz_lines.specs.Lines.{head_line}
use Rattle.bz_lines.specs.Objects.{number_data, list_of, word_pairs, head_data}
use Rattle.std.specs.Prelude.{codes}
use Rattle.std.proofs.lemmas.Option.{option_and_then_some}
use Rattle.std.proofs.lemmas.List.{length-replicate}
use Rattle.std.proofs.Math.ListN.{length-set}
use Rattle.serde_json.specs.Data.{Items}
use Rattle.serde_json.specs.Find.{at}
use Rattle.bz_reading.specs.Reading.{within, both, number_in, number_at, listed}
use Rattle.bz_reading.proofs.Again.{within_again}
use Rattle.bz_reading.proofs.Good.{IsGood, AreGoodItems, read_again, AreLineBytes, good_bytes, bytes_utf8}
use Rattle.bz_reading.proofs.ListLemmas.{listed-items_of}

set_middle : (front rest : List ℕ) (word : ℕ) → slice_set (front ++ 0 ∷ rest) (length front) word ≡ front ++ word ∷ rest
set_middle [] rest word = refl
set_middle (x ∷ front) rest word = ap (λ (xs : List ℕ). x ∷ xs) (set_middle front rest word)

placed_again : (front rest : List ℕ) (a word : ℕ) → a ≡ length front → a < 2 ^ 64 → word < 2 ^ 64 → placed (list_of (number_data a ∷ number_data word ∷ [])) (front ++ 0 ∷ rest) ≡ Some (front ++ word ∷ rest)
placed_again front rest a word is small fits =
    let long : length (front ++ 0 ∷ rest) ≡ length front + length (0 ∷ rest) = length-append front (0 ∷ rest) in
    rw (within_again 0 (length (front ++ 0 ∷ rest) - 1) a (omega arith) (omega arith), within_again 0 (2 ^ 64 - 1) word (omega arith) (omega arith))
    (ap (λ (k : ℕ). Some (slice_set (front ++ 0 ∷ rest) k word)) is ∙ ap (λ (ws : List ℕ). Some ws) (set_middle front rest word))

behind : (front ws : List ℕ) (w : ℕ) → (front ++ w ∷ []) ++ ws ≡ front ++ w ∷ ws
behind front ws w = append_assoc front (w ∷ []) ws

abbrev EachFits : List ℕ → Type 0
EachFits [] = Unit {0}
EachFits (w ∷ ws) = (w < 2 ^ 64) × EachFits ws

filled_again : (ws front : List ℕ) (a : ℕ) → a ≡ length front → a + length ws < 2 ^ 64 → EachFits ws → filled (word_pairs a ws) (front ++ replicate (length ws) 0) ≡ Some (front ++ ws)
filled_again [] front a is small fits = refl
filled_again (w ∷ ws) front a is small fits =
    let more : a + 1 ≡ length (front ++ w ∷ []) = omega (arith, length-append front (w ∷ [])) in
    let rest : filled (word_pairs (a + 1) ws) (front ++ w ∷ replicate (length ws) 0) ≡ Some (front ++ w ∷ ws) =
    ap (filled (word_pairs (a + 1) ws)) (sym (behind front (replicate (length ws) 0) w)) ∙ filled_again ws (front ++ w ∷ []) (a + 1) more (omega arith) fits.1 ∙ ap (λ (xs : List ℕ). Some xs) (behind front ws w) in
    elim (cases_Bool (w == 0)) [
      | inl zero_word ↦
          let none : w ≡ 0 = grind (arith, nat_tests) in
          rw zero_word (ap (λ (x : ℕ). filled (word_pairs (a + 1) ws) (front ++ x ∷ replicate (length ws) 0)) (sym none) ∙ rest)
      | inr some_word ↦ rw some_word (ap (option_and_then (filled (word_pairs (a + 1) ws))) (placed_again front (replicate (length ws) 0) a w is (omega arith) fits.0) ∙ rest)
    ]

each_fits : (ws : List ℕ) → ((a : ℕ) → slice_index ws a < 2 ^ 64) → EachFits ws
each_fits [] h = tt
each_fits (w ∷ ws) h = (h 0, each_fits ws (λ a. h (suc a)))

pub words_small : (c : Config) → IsConfig c → words_of c < 2 ^ 32
words_small c h = omega (arith, h.nodes_in_range.at_most, h.swaps_in_range.at_most)

-- the start image
pub start_again : (c : Config) (start : List ℕ) → IsStart c start → start_in (words_of c) (head_data c start) ≡ Some start
start_again c start h =
    let small = words_small c h.config in
    ap (λ (ds : List Data). filled ds (replicate (words_of c) 0)) (listed-items_of (word_pairs 0 start))
    ∙ ap (λ (n : ℕ). filled (word_pairs 0 start) (replicate n 0)) (sym h.size)
    ∙ filled_again start [] 0 refl (omega (arith, h.size)) (each_fits start h.words)

pub config_again : (c : Config) (start : List ℕ) → IsStart c start → config_in (head_data c start) ≡ Some c
config_again c start h =
    rw (within_again 1 16384 c.nodes h.config.nodes_in_range.at_least h.config.nodes_in_range.at_most, within_again 1 65536 c.swaps h.config.swaps_in_range.at_least h.config.swaps_in_range.at_most)
    (ap (λ (d : Config). Some d) (sym h.told))

pairs_good : (ws : List ℕ) (a : ℕ) → a + length ws < 2 ^ 64 → EachFits ws → AreGoodItems 2 (items_of (word_pairs a ws))
pairs_good [] a small fits = tt
pairs_good (w ∷ ws) a small fits = elim (cases_Bool (w == 0)) [
  | inl zero_word ↦ rw zero_word (pairs_good ws (a + 1) (omega arith) fits.1)
  | inr some_word ↦ rw some_word ((omega arith, (omega arith, (fits.0, tt))), pairs_good ws (a + 1) (omega arith) fits.1)
]

head_good : (c : Config) (start : List ℕ) → IsStart c start → IsGood 4 (head_data c start)
head_good c start h =
    let small = words_small c h.config in
    (omega arith, (refl, omega arith, (refl, omega (arith, h.config.nodes_in_range.at_most), (refl, (omega arith, pairs_good start 0 (omega (arith, h.size)) (each_fits start h.words)), (refl, omega (arith, h.config.swaps_in_range.at_most), tt)))), refl)

pub head_read : (c : Config) (start : List ℕ) → IsStart c start → read (head_line c start) ≡ Some (head_data c start)
head_read c start h = read_again (head_data c start) 4 (omega arith) (head_good c start h)

pub head_bytes : (c : Config) (start : List ℕ) → IsStart c start → AreLineBytes (head_line c start)
head_bytes c start h = good_bytes (head_data c start) 4 (head_good c start h)

-- a value is that of the first line of no other configuration and image than those that it tells
pub config_told : (c : Config) (start : List ℕ) (d : Data) (o : Option Config) → IsStart c start → d ≡ head_data c start → o ≡ config_in d → o ≡ Some c
config_told c start d o h is found = found ∙ ap config_in is ∙ config_again c start h

pub start_told : (c : Config) (start : List ℕ) (d : Data) (words : ℕ) (o : Option (List ℕ)) → IsStart c start → d ≡ head_data c start → words ≡ words_of c → o ≡ start_in words d → o ≡ Some start
start_told c start d words o h is same found = found ∙ ap (λ (k : ℕ). start_in k d) same ∙ ap (start_in (words_of c)) is ∙ start_again c start h

pub head_value : (c : Config) (start line : List ℕ) (d : Data) → IsStart c start → line ≡ head_line c start → read line ≡ Some d → d ≡ head_data c start
head_value c start line d h is found = let e : Some d ≡ Some (head_data c start) = sym found ∙ ap read is ∙ head_read c start h in cc

pub head_no_value : (c : Config) (start line : List ℕ) → IsStart c start → line ≡ head_line c start → (IsUtf8 line → read line ≡ None) → ⊥
head_no_value c start line h is none =
    let utf8 : IsUtf8 line = subst IsUtf8 (sym is) (bytes_utf8 (head_line c start) (head_bytes c start h)) in
    let e : Some (head_data c start) ≡ None = sym (head_read c start h) ∙ ap read (sym is) ∙ none utf8 in
    absurd (cc)

-- ---- what was read is a start image

both_told : (x y : Option ℕ) (c : Config) → both told_config x y ≡ Some c → c ≡ told_config c.nodes c.swaps
both_told None y c is = absurd (cc)
both_told (Some n) None c is = absurd (cc)
both_told (Some n) (Some s) c is = let same : told_config n s ≡ c = cc in subst (λ (d : Config). d ≡ told_config d.nodes d.swaps) same refl

both_long : (words : List ℕ) (x y : Option ℕ) (ws : List ℕ) → both (λ (a word : ℕ). slice_set words a word) x y ≡ Some ws → length ws ≡ length words
both_long words None y ws is = absurd (cc)
both_long words (Some a) None ws is = absurd (cc)
both_long words (Some a) (Some w) ws is = let same : slice_set words a w ≡ ws = cc in ap length (sym same) ∙ length-set words a w

filled_long : (ds : List Data) (words ws : List ℕ) → filled ds words ≡ Some ws → length ws ≡ length words
filled_long [] words ws is = let same : words ≡ ws = cc in ap length (sym same)
filled_long (d ∷ ds) words ws is =
    option_and_then_some (filled ds) (placed d words) ws is (λ (x : List ℕ) (one : placed d words ≡ Some x) (rest : filled ds x ≡ Some ws).
    filled_long ds x ws rest ∙ both_long words (item_number 0 (length words - 1) d) (item_number 1 (2 ^ 64 - 1) d) x one)

start_long : (words : ℕ) (o : Option Items) (ws : List ℕ) → option_and_then (λ ds. filled (listed ds) (replicate words 0)) o ≡ Some ws → length ws ≡ words
start_long words None ws is = absurd (cc)
start_long words (Some ds) ws is = filled_long (listed ds) (replicate words 0) ws is ∙ length-replicate words 0

within_most : (high : ℕ) (o : Option ℕ) (n : ℕ) → within 0 high o ≡ Some n → n ≤ high
within_most high None n is = absurd (cc)
within_most high (Some m) n is = elim (cases_Bool (nat_le 0 m && nat_le m high)) [
  | inl inside ↦
      let same : Some m ≡ Some n = sym (ap (λ (b : Bool). cond b (Some m) None) inside) ∙ is in
      let it : m ≡ n = cc in
      let small : m ≤ high = grind (arith, nat_tests) in
      omega arith
  | inr outside ↦ let none : None ≡ Some n = sym (ap (λ (b : Bool). cond b (Some m) None) outside) ∙ is in absurd (cc)
]

set_fits : (words : List ℕ) (a w : ℕ) → EachFits words → w < 2 ^ 64 → EachFits (slice_set words a w)
set_fits [] a w h k = tt
set_fits (x ∷ words) zero w h k = (k, h.1)
set_fits (x ∷ words) (suc a) w h k = (h.0, set_fits words a w h.1 k)

placed_fits : (words : List ℕ) (a : ℕ) (o : Option ℕ) (ws : List ℕ) → ((n : ℕ) → o ≡ Some n → n ≤ 2 ^ 64 - 1) → both (λ (a word : ℕ). slice_set words a word) (Some a) o ≡ Some ws → EachFits words → EachFits ws
placed_fits words a None ws small is h = absurd (cc)
placed_fits words a (Some w) ws small is h =
    let same : slice_set words a w ≡ ws = cc in
    subst EachFits same (set_fits words a w h (omega (arith, small w refl)))

both_fits : (words : List ℕ) (x y : Option ℕ) (ws : List ℕ) → both (λ (a word : ℕ). slice_set words a word) x (within 0 (2 ^ 64 - 1) y) ≡ Some ws → EachFits words → EachFits ws
both_fits words None y ws is h = absurd (cc)
both_fits words (Some a) y ws is h = placed_fits words a (within 0 (2 ^ 64 - 1) y) ws (λ n e. within_most (2 ^ 64 - 1) y n e) is h

filled_fits : (ds : List Data) (words ws : List ℕ) → filled ds words ≡ Some ws → EachFits words → EachFits ws
filled_fits [] words ws is h = let same : words ≡ ws = cc in subst EachFits same h
filled_fits (d ∷ ds) words ws is h =
    option_and_then_some (filled ds) (placed d words) ws is (λ (x : List ℕ) (one : placed d words ≡ Some x) (rest : filled ds x ≡ Some ws).
    filled_fits ds x ws rest (both_fits words (item_number 0 (length words - 1) d) (option_and_then number_in (at 1 d)) x one h))

zeros_fit : (n : ℕ) → EachFits (replicate n 0)
zeros_fit zero = tt
zeros_fit (suc n) = (omega arith, zeros_fit n)

start_fits : (words : ℕ) (o : Option Items) (ws : List ℕ) → option_and_then (λ ds. filled (listed ds) (replicate words 0)) o ≡ Some ws → EachFits ws
start_fits words None ws is = absurd (cc)
start_fits words (Some ds) ws is = filled_fits (listed ds) (replicate words 0) ws is (zeros_fit words)

fits_at : (ws : List ℕ) → EachFits ws → (a : ℕ) → slice_index ws a < 2 ^ 64
fits_at [] h a = omega arith
fits_at (w ∷ ws) h zero = h.0
fits_at (w ∷ ws) h (suc a) = fits_at ws h.1 a

pub start_right : (c : Config) (d : Data) (words : ℕ) (ws : List ℕ) → Some c ≡ config_in d → IsConfig c → words ≡ words_of c → Some ws ≡ start_in words d → IsStart c ws
start_right c d words ws told config same found = record {
  config = config;
  told = both_told (number_at (codes "nodes") 1 16384 d) (number_at (codes "swaps") 1 65536 d) c (sym told);
  size = start_long words (start_items d) ws (sym found) ∙ same;
  words = fits_at ws (start_fits words (start_items d) ws (sym found));
}
