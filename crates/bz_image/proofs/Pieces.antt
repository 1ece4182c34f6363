-- A sink that grew by a part and then by another.
use Rattle.std.proofs.Common.{◌≡◌, ℕ, ◌+◌, List, ◌++◌, take, drop, append_assoc, arith, sym, ap, ◌∙◌, length-append, OnOk, OnErr}
use Rattle.std.specs.Prelude.{Option, Result, Ok, Err}
use Rattle.std.proofs.Math.Seq.{take-add}
use Rattle.std.proofs.lemmas.Grind.{flat_map-append}
use Rattle.std.proofs.lemmas.List.{take-append-drop}
use Rattle.std.specs.Io.KnownBytes.{Appends}
use Rattle.byteorder.specs.Endian.{little_bytes}
use Rattle.bz_io.specs.Transfers.{GrewByFront}
use Rattle.bz_io.proofs.Grown.{appends_twice}
use Rattle.bz_image.specs.Form.{bytes_of_words}

-- the bytes of some words are those of the first ones, and then those of the others
bytes_of_words-split : (done : ℕ) (words : List ℕ) → bytes_of_words words ≡ bytes_of_words (take done words) ++ bytes_of_words (drop done words)
bytes_of_words-split done words = ap bytes_of_words (sym (take-append-drop done words)) ∙ flat_map-append (little_bytes 8) (take done words) (drop done words)

bytes_of_words-more : (done count : ℕ) (words : List ℕ) → bytes_of_words (take (done + count) words) ≡ bytes_of_words (take done words) ++ bytes_of_words (take count (drop done words))
bytes_of_words-more done count words = ap bytes_of_words (take-add done count words) ∙ flat_map-append (little_bytes 8) (take done words) (take count (drop done words))

-- a front part of more bytes
pub grew_of_more : (a b : Option (List ℕ)) (xs ys : List ℕ) → GrewByFront a b xs → GrewByFront a b (xs ++ ys)
grew_of_more a b xs ys grew = record {
  front = grew.front;
  back = grew.back ++ ys;
  whole = sym (append_assoc grew.front grew.back ys) ∙ ap (λ (zs : List ℕ). zs ++ ys) grew.whole;
  some_back = omega (arith, length-append grew.back ys, grew.some_back);
  grew = grew.grew;
}

-- all of some bytes, and a front part of those behind them
pub grew_behind : (a b c : Option (List ℕ)) (xs ys : List ℕ) → Appends a b xs → GrewByFront b c ys → GrewByFront a c (xs ++ ys)
grew_behind a b c xs ys h grew = record {
  front = xs ++ grew.front;
  back = grew.back;
  whole = append_assoc xs grew.front grew.back ∙ ap (λ (zs : List ℕ). xs ++ zs) grew.whole;
  some_back = grew.some_back;
  grew = appends_twice a b c xs grew.front h grew.grew;
}

-- the same of a result: all of the bytes behind those that stand, or a front part of them
pub ok_behind : {T E : Type 0} (a b c : Option (List ℕ)) (xs ys : List ℕ) (result : Result T E) → Appends a b xs → OnOk result (Appends b c ys) → OnOk result (Appends a c (xs ++ ys))
ok_behind a b c xs ys (Ok x) h k = appends_twice a b c xs ys h k
ok_behind a b c xs ys (Err e) h k = tt

pub err_behind : {T E : Type 0} (a b c : Option (List ℕ)) (xs ys : List ℕ) (result : Result T E) → Appends a b xs → OnErr result (GrewByFront b c ys) → OnErr result (GrewByFront a c (xs ++ ys))
err_behind a b c xs ys (Ok x) h k = tt
err_behind a b c xs ys (Err e) h k = grew_behind a b c xs ys h k

-- a piece of the words more
pub appends_piece : (a b c : Option (List ℕ)) (done count end : ℕ) (words : List ℕ) → end ≡ done + count → Appends a b (bytes_of_words (take done words)) → Appends b c (bytes_of_words (take count (drop done words))) → Appends a c (bytes_of_words (take end words))
appends_piece a b c done count end words is h k = rw (is, bytes_of_words-more done count words) (appends_twice a b c _ _ h k)

-- a front part of the next piece, and so of all words
pub grew_piece : (a b c : Option (List ℕ)) (done count : ℕ) (words : List ℕ) → Appends a b (bytes_of_words (take done words)) → GrewByFront b c (bytes_of_words (take count (drop done words))) → GrewByFront a c (bytes_of_words words)
grew_piece a b c done count words h grew =
    rw (bytes_of_words-split done words) (grew_behind a b c _ _ h (rw (bytes_of_words-split count (drop done words)) (grew_of_more b c _ _ grew)))
