-- A sink that has grown twice.
use Rattle.std.proofs.Common.{◌<◌, ℕ, ◌+◌, List, ◌++◌, take, drop, length, append_assoc, arith, refl}
use Rattle.std.specs.Prelude.{Option, Some, None}
use Rattle.std.proofs.Math.Seq.{take-add}
use Rattle.std.proofs.lemmas.List.{take-append-drop, length-drop}
use Rattle.std.specs.Io.KnownBytes.{Appends, Keeps}
use Rattle.bz_io.specs.Transfers.{GrewByFront}

pub appends_twice : (a b c : Option (List ℕ)) (xs ys : List ℕ) → Appends a b xs → Appends b c ys → Appends a c (xs ++ ys)
appends_twice None b c xs ys h k = tt
appends_twice (Some xs0) None c xs ys h k = absurd h
appends_twice (Some xs0) (Some bs) None xs ys h k = absurd k
appends_twice (Some xs0) (Some bs) (Some cs) xs ys h k = rw (k, h, append_assoc) refl

pub appends_keeps : (a b c : Option (List ℕ)) (xs : List ℕ) → Appends a b xs → Keeps b c → Appends a c xs
appends_keeps None b c xs h k = tt
appends_keeps (Some xs0) None c xs h k = absurd h
appends_keeps (Some xs0) (Some bs) None xs h k = absurd k
appends_keeps (Some xs0) (Some bs) (Some cs) xs h k = rw (k, h) refl

-- the front part is longer by what the sink took
pub appends_part : (a b c : Option (List ℕ)) (done count : ℕ) (bytes : List ℕ) → Appends a b (take done bytes) → Appends b c (take count (drop done bytes)) → Appends a c (take (done + count) bytes)
appends_part a b c done count bytes h k = rw (take-add done count bytes) (appends_twice a b c _ _ h k)

pub grew_front : (a b c : Option (List ℕ)) (done : ℕ) (bytes : List ℕ) → done < length bytes → Appends a b (take done bytes) → Keeps b c → GrewByFront a c bytes
grew_front a b c done bytes below h k = record {
  front = take done bytes;
  back = drop done bytes;
  whole = take-append-drop done bytes;
  some_back = omega (arith, length-drop done bytes);
  grew = appends_keeps a b c _ h k;
}
