-- A spelling that is written byte by byte.
use Rattle.std.specs.Prelude.{◌≡◌, ◌≤◌, ◌<◌, ℕ, ◌+◌, ◌*◌, List, [], ◌∷◌, ◌++◌, length, get_or, take, drop, set}
use Rattle.std.proofs.Common.{arith, sym, ◌∙◌, ap, refl}
use Rattle.std.proofs.lemmas.List.{nil_from_length, take_more, append_assoc, append-nil, length-append, drop-drop, take_at, drop_at, take_all}
use Rattle.bz_key.specs.Spelling.{spelled_byte, spelled_bytes, spelled}
use Rattle.bz_key.proofs.SpellingLaws.{length-spelled_byte}

pub spelled-empty : (bytes : List ℕ) → length bytes ≡ 0 → 37 ∷ [] ≡ spelled bytes
unfolding spelled
spelled-empty bytes none = rw (nil_from_length bytes none) refl

pub one_place : (out : List ℕ) (c : ℕ) → 0 < length out → set out 0 c ≡ (c ∷ []) ++ drop 1 out
one_place [] c some = absurd (omega arith)
one_place (x ∷ out) c some = refl

pub spelled-some : (bytes : List ℕ) → 0 < length bytes → spelled_bytes bytes ≡ spelled bytes
unfolding spelled
spelled-some [] some = absurd (omega arith)
spelled-some (b ∷ bytes) some = refl

spelled_bytes-append : (xs ys : List ℕ) → spelled_bytes (xs ++ ys) ≡ spelled_bytes xs ++ spelled_bytes ys
unfolding spelled_bytes
spelled_bytes-append [] ys = refl
spelled_bytes-append (x ∷ xs) ys = rw (spelled_bytes-append xs ys) (sym (append_assoc (spelled_byte x) (spelled_bytes xs) (spelled_bytes ys)))

spelled_bytes-one : (b : ℕ) → spelled_bytes (b ∷ []) ≡ spelled_byte b
unfolding spelled_bytes
spelled_bytes-one b = append-nil (spelled_byte b)

spelled_bytes-more : (bytes : List ℕ) (i : ℕ) → i < length bytes → spelled_bytes (take (i + 1) bytes) ≡ spelled_bytes (take i bytes) ++ spelled_byte (get_or bytes i 0)
spelled_bytes-more bytes i within =
    rw (take_more bytes i 0 within, spelled_bytes-append, spelled_bytes-one) refl

-- the first bytes stand spelled at the front, and behind them all is as it was
pub record IsWritten (bytes first out : List ℕ) (i end : ℕ) : Type 0 where
  pub counted : end ≡ length (spelled_bytes (take i bytes))
  pub below : end ≤ 3 * i
  pub text : out ≡ spelled_bytes (take i bytes) ++ drop end first

pub written-none : (bytes out : List ℕ) → IsWritten bytes out out 0 0
unfolding spelled_bytes
written-none bytes out = record { counted = refl; below = omega arith; text = refl }

pub written-next : (bytes first out new : List ℕ) (i end next : ℕ) → i < length bytes → IsWritten bytes first out i end → next ≡ end + length (spelled_byte (get_or bytes i 0))
    → new ≡ take end out ++ (spelled_byte (get_or bytes i 0) ++ drop next out) → IsWritten bytes first new (i + 1) next
written-next bytes first out new i end next within h next_is is =
    let front = spelled_bytes (take i bytes) in
    let piece = spelled_byte (get_or bytes i 0) in
    let more = spelled_bytes-more bytes i within in
    let three = length-spelled_byte (get_or bytes i 0) in
    let rest : drop next out ≡ drop next first =
    rw (next_is, h.text, ← drop-drop (length piece) end (front ++ drop end first), drop_at front (drop end first) end (sym h.counted), drop-drop (length piece) end first) refl in
    record {
      counted = next_is ∙ rw (more, length-append front piece) (ap (λ n. n + length piece) h.counted);
      below = omega (arith, h.below, three, next_is);
      text = is ∙ rw (rest, h.text, take_at front (drop end first) end (sym h.counted), more) (sym (append_assoc front piece (drop next first)));
    }

pub written-all : (bytes first out : List ℕ) (i end : ℕ) → 0 < length bytes → length bytes ≤ i → IsWritten bytes first out i end → (end ≡ length (spelled bytes)) × (out ≡ spelled bytes ++ drop end first)
written-all bytes first out i end some all h =
    let whole : spelled_bytes (take i bytes) ≡ spelled bytes = rw (take_all i bytes all) (spelled-some bytes some) in
    (rw (← whole) h.counted, rw (← whole) h.text)
