-- Words read from bytes, and written to them.
use Rattle.std.proofs.Common.{◌≡◌, ◌<◌, ◌≤◌, ℕ, zero, suc, ◌+◌, ◌*◌, ◌/◌, ◌%◌, ◌^◌, List, [], ◌∷◌, ◌++◌, length, take, drop, slice_index, refl, sym, ap, ◌∙◌, arith}
use Rattle.std.proofs.Math.Nat.{pow-succ', div-div-eq-div-mul}
use Rattle.std.proofs.Math.Seq.{take-add}
use Rattle.std.proofs.lemmas.List.{drop-take, drop-drop, get_or-drop, length-drop}
use Rattle.std.specs.Int.{byte_at, bytes_low_first}
use Rattle.byteorder.specs.Endian.{little_number, little_bytes, IsRead}
use Rattle.byteorder.specs.Numbers.{little_from-cons, little_from-take, little_from-lt, little_number-reads_back}
use Rattle.bz_image.specs.Form.{bytes_of_words}
use Rattle.bz_image.specs.Reads.{words_in}
use Rattle.bz_image.specs.Laws.{AreBytes}

pub cons_same : (a b : ℕ) (xs ys : List ℕ) → a ≡ b → xs ≡ ys → a ∷ xs ≡ b ∷ ys
cons_same a b xs ys p q = cc

-- words are read from their own bytes alone
pub words_in-take : (n m : ℕ) (xs : List ℕ) → m ≡ 8 * n → words_in n (take m xs) ≡ words_in n xs
words_in-take zero m xs is = refl
words_in-take (suc n) m xs is =
    let first : little_number 8 (take m xs) ≡ little_number 8 xs = little_from-take 0 8 m xs (omega arith) in
    let more : m ≡ 8 + 8 * n = omega arith in
    let behind : drop 8 (take m xs) ≡ take (8 * n) (drop 8 xs) = ap (λ (i : ℕ). drop 8 (take i xs)) more ∙ drop-take 8 (8 * n) xs in
    cons_same _ _ _ _ first (ap (words_in n) behind ∙ words_in-take n (8 * n) (drop 8 xs) refl)

-- words that were read one by one
pub words_read : (src dst : List ℕ) → IsRead little_number 8 src dst → dst ≡ words_in (length dst) src
words_read src [] read = refl
words_read src (x ∷ dst) read =
    let first : x ≡ little_number 8 src = read 0 (omega arith) in
    let next : (k : ℕ) → drop (8 * suc k) src ≡ drop (8 * k) (drop 8 src) = λ k. (let more : 8 * suc k ≡ 8 + 8 * k = omega arith in ap (λ (i : ℕ). drop i src) more ∙ sym (drop-drop (8 * k) 8 src)) in
    let rest : IsRead little_number 8 (drop 8 src) dst = λ k below. read (suc k) (omega arith) ∙ ap (little_number 8) (next k) in
    cons_same _ _ _ _ first (words_read (drop 8 src) dst rest)

-- words that were read from their bytes alone
pub words_behind : (bytes words : List ℕ) (n m : ℕ) → length words ≡ n → m ≡ 8 * n → IsRead little_number 8 (take m bytes) words → words ≡ words_in n bytes
words_behind bytes words n m counted is read =
    words_read (take m bytes) words read ∙ ap (λ (i : ℕ). words_in i (take m bytes)) counted ∙ words_in-take n m bytes is

-- what is written of words reads back
pub words_in-bytes : (words rest : List ℕ) → ((a : ℕ) → slice_index words a < 2 ^ 64) → words_in (length words) (bytes_of_words words ++ rest) ≡ words
words_in-bytes [] rest fit = refl
words_in-bytes (w ∷ words) rest fit =
    let first : little_number 8 (little_bytes 8 w ++ (bytes_of_words words ++ rest)) ≡ w = little_number-reads_back 8 w (bytes_of_words words ++ rest) (fit 0) in
    cons_same _ _ _ _ first (words_in-bytes words rest (λ a. fit (suc a)))

pub length-words_in : (n : ℕ) (xs : List ℕ) → length (words_in n xs) ≡ n
length-words_in zero xs = refl
length-words_in (suc n) xs = ap suc (length-words_in n (drop 8 xs))

pub bytes-drop : (k : ℕ) (xs : List ℕ) → AreBytes xs → AreBytes (drop k xs)
bytes-drop k xs bytes i = rw (get_or-drop k xs i 0) (bytes (k + i))

pub words_fit : (n : ℕ) (xs : List ℕ) → AreBytes xs → (a : ℕ) → slice_index (words_in n xs) a < 2 ^ 64
words_fit zero xs bytes a = omega arith
words_fit (suc n) xs bytes zero = little_from-lt 0 8 xs bytes
words_fit (suc n) xs bytes (suc a) = words_fit n (drop 8 xs) (bytes-drop 8 xs bytes) a

-- a byte further up is that of the quotient
byte_up : (j x : ℕ) → byte_at (suc j) x ≡ byte_at j (x / 256)
byte_up zero x = refl
byte_up (suc j) x =
    ap (λ (y : ℕ). y % 256) (ap (λ (p : ℕ). x / p) (pow-succ' 256 (suc j)) ∙ sym (div-div-eq-div-mul x 256 (256 ^ suc j)))

low_first-up : (j n x : ℕ) → bytes_low_first (suc j) n x ≡ bytes_low_first j n (x / 256)
low_first-up j zero x = refl
low_first-up j (suc n) x = cons_same _ _ _ _ (byte_up j x) (low_first-up (suc j) n x)

lowest : (b n : ℕ) → b < 256 → (b + 256 * n) % 256 ≡ b
lowest b n fits = omega arith

above : (b n : ℕ) → b < 256 → (b + 256 * n) / 256 ≡ n
above b n fits = omega arith

-- the bytes of the number that bytes read as
pub bytes_again : (n : ℕ) (xs : List ℕ) → n ≤ length xs → AreBytes xs → little_bytes n (little_number n xs) ≡ take n xs
bytes_again zero xs long bytes = refl
bytes_again (suc n) [] long bytes = absurd (omega arith)
bytes_again (suc n) (b ∷ xs) long bytes =
    let is : little_number (suc n) (b ∷ xs) ≡ b + 256 * little_number n xs = ap (λ (r : ℕ). b + 256 * r) (little_from-cons 0 n b xs) in
    let rest : bytes_low_first 0 n (little_number n xs) ≡ take n xs = bytes_again n xs (omega arith) (λ i. bytes (suc i)) in
    ap (bytes_low_first 0 (suc n)) is
    ∙ cons_same _ _ _ _ (lowest b (little_number n xs) (bytes 0)) (low_first-up 0 n (b + 256 * little_number n xs) ∙ ap (bytes_low_first 0 n) (above b (little_number n xs) (bytes 0)) ∙ rest)

-- the bytes of the words that bytes read as
pub bytes_of_words-in : (n m : ℕ) (xs : List ℕ) → m ≡ 8 * n → m ≤ length xs → AreBytes xs → bytes_of_words (words_in n xs) ≡ take m xs
bytes_of_words-in zero m xs is long bytes = ap (λ (i : ℕ). take i xs) (sym is)
bytes_of_words-in (suc n) m xs is long bytes =
    let more : m ≡ 8 + 8 * n = omega arith in
    let first : little_bytes 8 (little_number 8 xs) ≡ take 8 xs = bytes_again 8 xs (omega arith) bytes in
    let rest : bytes_of_words (words_in n (drop 8 xs)) ≡ take (8 * n) (drop 8 xs) = bytes_of_words-in n (8 * n) (drop 8 xs) refl (omega (arith, length-drop 8 xs)) (bytes-drop 8 xs bytes) in
    ap (λ (ys : List ℕ). ys ++ bytes_of_words (words_in n (drop 8 xs))) first
    ∙ ap (λ (ys : List ℕ). take 8 xs ++ ys) rest
    ∙ sym (take-add 8 (8 * n) xs)
    ∙ ap (λ (i : ℕ). take i xs) (sym more)
