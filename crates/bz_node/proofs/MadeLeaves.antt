-- A leaf made whole, read back.
use Rattle.std.specs.Prelude.{◌≡◌, ℕ, suc, ◌+◌, ◌-◌, ◌<◌, List, ◌∷◌, [], ◌++◌, length, map, get_or, All}
use Rattle.std.specs.List.{sum_by, flat_map}
use Rattle.std.proofs.Common.{arith, refl, ap, sym, ◌∙◌, subst}
use Rattle.std.proofs.lemmas.List.{length-append, get_or-map, length-map}
use Rattle.std.proofs.lemmas.List.Elements.{All-nil, All-cons}
use Rattle.std.proofs.lemmas.List.Sums.{sum_by-cons}
use Rattle.bz_key.specs.Packing.{packed}
use Rattle.bz_key.proofs.PackingLaws.{length-packed}
use Rattle.bz_layout.specs.declared.sizes.TheConstants.{NODE_WORDS}
use Rattle.bz_word.specs.declared.meta.Extent.{Extent}
use Rattle.bz_word.specs.declared.meta.Meta.TheVariants.{Visible}
use Rattle.bz_node.specs.Layout.{IsEntry, block, needed}
use Rattle.bz_node.specs.Records.{pair_entry, leaf_words, keys_of}
use Rattle.bz_node.specs.Reading.{pair_in, shown, words_shown, live_in, HasPair}
use Rattle.bz_node.specs.Laws.{LeavesAreRead}
use Rattle.bz_node.specs.Records.{IsPair}
use Rattle.bz_node.proofs.Entries.{IsEntry-pair}
use Rattle.bz_node.proofs.Orders.{get_or-keys_of, length-keys_of, IsBefore-other}
use Rattle.bz_node.proofs.MadePlaces.{places_made}
use Rattle.bz_node.proofs.Made.{extents, front_made, metas_made, block_made, before_block, readable_made, place_made, split_first, split_rest}
use Rattle.bz_node.proofs.MadePairs.{extent_at, pair_there, has_there}

tail_each : (r : List ℕ × List ℕ) (records : List (List ℕ × List ℕ)) → All IsPair (r ∷ records) → All IsPair records
tail_each r records each k d within = each (suc k) d (omega arith)

entries_fit : (records : List (List ℕ × List ℕ)) → All IsPair records → All IsEntry (map pair_entry records)
entries_fit [] each = All-nil IsEntry
entries_fit (r ∷ records) each =
    let ok : IsPair r = each 0 r (omega arith) in
    All-cons IsEntry (pair_entry r) (map pair_entry records) (IsEntry-pair r ok.key ok.payload) (entries_fit records (tail_each r records each))

pairs_there : (records : List (List ℕ × List ℕ)) (W A B : List ℕ) (end : ℕ) → W ≡ A ++ (block (map pair_entry records) ++ B) → length A + length (block (map pair_entry records)) ≡ end →
    All IsPair records → map (pair_in W) (extents end (map pair_entry records)) ≡ records
unfolding block extents
pairs_there [] W A B end is ends each = refl
pairs_there (r ∷ records) W A B end is ends each =
    let X = block (map pair_entry records) in
    let K = packed r.0 ++ packed r.1 in
    let start : length (A ++ X) ≡ end - length K = omega (arith, length-append A X, length-append X K) in
    let stop : length A + length X ≡ end - length K = omega (arith, length-append X K) in
    let here = pair_there W (A ++ X) B r (end - length K) (split_first W A X K B is) start (each 0 r (omega arith)) in
    let rest = pairs_there records W A (K ++ B) (end - length K) (split_rest W A X K B is) stop (tail_each r records each) in
    λ i. here i ∷ rest i

has_all : (records : List (List ℕ × List ℕ)) (W A B : List ℕ) (end : ℕ) → length W ≡ NODE_WORDS → W ≡ A ++ (block (map pair_entry records) ++ B) → length A + length (block (map pair_entry records)) ≡ end →
    All IsPair records → All (HasPair W) (extents end (map pair_entry records))
unfolding block extents
has_all [] W A B end whole is ends each = All-nil (HasPair W)
has_all (r ∷ records) W A B end whole is ends each =
    let X = block (map pair_entry records) in
    let K = packed r.0 ++ packed r.1 in
    let start : length (A ++ X) ≡ end - length K = omega (arith, length-append A X, length-append X K) in
    let stop : length A + length X ≡ end - length K = omega (arith, length-append X K) in
    let here = has_there W (A ++ X) B r (end - length K) whole (split_first W A X K B is) start (each 0 r (omega arith)) in
    let rest = has_all records W A (K ++ B) (end - length K) whole (split_rest W A X K B is) stop (tail_each r records each) in
    All-cons (HasPair W) (extent_at (end - length K) r) (extents (end - length K) (map pair_entry records)) here rest

live_there : (records : List (List ℕ × List ℕ)) (end : ℕ) → sum_by words_shown (map Visible (extents end (map pair_entry records))) ≡ needed (map pair_entry records)
unfolding block extents
live_there [] end = refl
live_there (r ∷ records) end =
    let K = packed r.0 ++ packed r.1 in
    let X = block (map pair_entry records) in
    let rest = live_there records (end - length K) in
    let cons = sum_by-cons words_shown (Visible (extent_at (end - length K) r)) (map Visible (extents (end - length K) (map pair_entry records))) in
    omega (arith, cons, rest, length-append X K, length-append (packed r.0) (packed r.1), length-packed r.0, length-packed r.1)

shown_all : (W : List ℕ) (xs : List Extent) → flat_map (shown W) (map Visible xs) ≡ map (pair_in W) xs
shown_all W [] = refl
shown_all W (e ∷ xs) = ap (λ rest. pair_in W e ∷ rest) (shown_all W xs)

-- the key of the record at a place
key_at : (W : List ℕ) (records : List (List ℕ × List ℕ)) (xs : List Extent) (i : ℕ) (e : Extent) → map (pair_in W) xs ≡ records → i < length xs → get_or xs i e ≡ e → get_or (keys_of records) i [] ≡ (pair_in W e).0
key_at W records xs i e are within is =
    let long : length records ≡ length xs = sym (ap length are) ∙ length-map xs (pair_in W) in
    get_or-keys_of records i (pair_in W e) (omega (arith, long))
    ∙ ap (λ rs. (get_or rs i (pair_in W e)).0) (sym are)
    ∙ ap (λ (r : List ℕ × List ℕ). r.0) (get_or-map (pair_in W) xs i e (pair_in W e) within)
    ∙ ap (λ (f : Extent). (pair_in W f).0) is

pub leaf_read : LeavesAreRead
leaf_read records low high each low_ok high_ok made fits =
    let es = map pair_entry records in
    let W = leaf_words records low high in
    let xs = extents NODE_WORDS es in
    let A = before_block 0 low high es in
    let front = front_made 0 low high es (omega arith) low_ok high_ok fits in
    let entries = entries_fit records each in
    let metas = metas_made 0 low high es low_ok high_ok fits entries in
    let node = readable_made 0 low high es low_ok high_ok fits entries in
    let parted : W ≡ A ++ (block es ++ []) = block_made 0 low high es in
    let ends : length A + length (block es) ≡ NODE_WORDS = omega (arith, front.size, ap length parted, length-append A (block es ++ []), length-append (block es) []) in
    let pairs : map (pair_in W) xs ≡ records = pairs_there records W A [] NODE_WORDS parted ends each in
    let has = has_all records W A [] NODE_WORDS front.size parted ends each in
    let live : live_in W ≡ needed es = ap (sum_by words_shown) metas ∙ live_there records NODE_WORDS in
    let place = place_made W xs front.size node.room metas in
    let long = length-keys_of records in
    let counted : length records ≡ length xs = sym (ap length pairs) ∙ length-map xs (pair_in W) in
    record {
      front = front;
      places = places_made 0 low high es low_ok high_ok fits entries (omega arith);
      records = ap (flat_map (shown W)) metas ∙ shown_all W xs ∙ pairs;
      live = live;
      readable = record {
        node = node;
        live = omega (arith, live);
        pairs = λ i e within is. (let p = place i e within is in subst (λ (f : Extent). HasPair W f) p.1 (has i e p.0));
        distinct = λ i j e f less within is_e is_f same. (
            let p = place i e (omega arith) is_e in
            let q = place j f within is_f in
            let a = key_at W records xs i e pairs p.0 p.1 in
            let b = key_at W records xs j f pairs q.0 q.1 in
            IsBefore-other (get_or (keys_of records) i []) (get_or (keys_of records) j []) (made.rising i j less (omega (arith, long, counted, q.0))) (a ∙ same ∙ sym b));
      };
    }
