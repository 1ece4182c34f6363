-- A record moves from one leaf to another: rewrites of two leaves at once.
use Rattle.std.proofs.Common.{◌≡◌, ◌≢◌, ℕ, ◌+◌, ◌<◌, ◌==◌, ◌||◌, ◌⊎◌, if◌then◌else◌, Bool, true, false, List, [], ◌∷◌, ◌++◌, Option, arith, refl, sym, ap, subst, ◌∙◌, inl, inr}
use Rattle.std.proofs.lemmas.List.Elements.{All-cons, All-nil}
use Rattle.bz_layout.specs.Addresses.{node_address}
use Rattle.bz_layout.specs.declared.config.Config.{Config}
use Rattle.bz_layout.specs.declared.sizes.TheConstants.{NODE_WORDS}
use Rattle.bz_layout.proofs.Laws.{slots_apart}
use Rattle.bz_word.specs.declared.entry.Entry.{Entry}
use Rattle.bz_word.specs.declared.meta.Meta.{Meta}
use Rattle.bz_word.specs.declared.meta.Meta.TheVariants.{Deleted, Visible}
use Rattle.bz_word.specs.declared.meta.Extent.{Extent}
use Rattle.bz_word.specs.Statuses.{status}
use Rattle.bz_content.specs.Resolving.{resolve}
use Rattle.bz_task.specs.FromSwap.SwapMemory.{is_target}
use Rattle.bz_task.specs.Instant.{Instant}
use Rattle.bz_task.specs.Laws.{SlotWords}
use Rattle.bz_task.specs.LeafSwaps.{IsWordOf, SaysChange}
use Rattle.bz_task.specs.PairSwaps.{IsPairSwap, SaysChanges, IsGoodForAll}
use Rattle.bz_task.specs.Scene.{Scene, IsScene, here}
use Rattle.bz_task.specs.Swaps.{Change, Stand, SwapsTo, swapped}
use Rattle.bz_task.proofs.Proved.{pair_swaps_make_changes, swaps_show_in_slots}
use Rattle.bz_task.proofs.Swapping.{same-swapped, untouched}
use Rattle.bz_record.specs.Laws.{IsRewrite, IsRewritten, inserts}
use Rattle.bz_record.specs.Leaves.{WasReserved}
use Rattle.bz_record.specs.Moving.{IsCrossing, IsGoodMove}
use Rattle.bz_record.specs.Records.{place_of, Fits}
use Rattle.bz_record.specs.Replacing.{removal, WasRecord}
use Rattle.bz_record.specs.ReplacingLaws.{deletes}
use Rattle.bz_record.specs.Swaps.{status_entry, meta_entry, entries_of, publication}
use Rattle.bz_record.specs.Writing.{HasWritten}
use Rattle.bz_record.specs.declared.new_record.NewRecord.{NewRecord}
use Rattle.bz_record.specs.declared.record_swap.RecordSwap.{RecordSwap}
use Rattle.bz_record.proofs.Before.{before}
use Rattle.bz_record.proofs.Publishing.{publications-rewrite}
use Rattle.bz_record.proofs.Removing.{removals-rewrite}
use Rattle.bz_record.proofs.Rewriting.{rewriting-leaf}

-- what two lists of entries name and set
target-append : (xs ys : List Entry) (a : ℕ) → is_target (xs ++ ys) a ≡ true → (is_target xs a ≡ true) ⊎ (is_target ys a ≡ true)
target-append [] ys a e = inr e
target-append (x ∷ xs) ys a e = go (x.target == a) refl e (target-append xs ys a)
  where
    go : (t : Bool) → (x.target == a) ≡ t → t || is_target (xs ++ ys) a ≡ true → (is_target (xs ++ ys) a ≡ true → (is_target xs a ≡ true) ⊎ (is_target ys a ≡ true)) → ((x.target == a) || is_target xs a ≡ true) ⊎ (is_target ys a ≡ true)
    go true q h rest = inl (rw q refl)
    go false q h rest = elim (rest h) [ inl p ↦ inl (rw q p) | inr p ↦ inr p ]

swapped-append : (xs ys : List Entry) (f : ℕ → ℕ) (a : ℕ) → swapped (xs ++ ys) f a ≡ swapped xs (swapped ys f) a
swapped-append [] ys f a = refl
swapped-append (x ∷ xs) ys f a = ap (λ z. if x.target == a then x.new else z) (swapped-append xs ys f a)

only-first : (xs ys : List Entry) (f : ℕ → ℕ) (a : ℕ) → is_target ys a ≡ false → swapped (xs ++ ys) f a ≡ swapped xs f a
only-first xs ys f a e = swapped-append xs ys f a ∙ same-swapped xs (swapped ys f) f a (untouched ys f a e)

only-second : (xs ys : List Entry) (f : ℕ → ℕ) (a : ℕ) → is_target xs a ≡ false → swapped (xs ++ ys) f a ≡ swapped ys f a
only-second xs ys f a e = swapped-append xs ys f a ∙ untouched xs (swapped ys f) a e

-- a slot of which these entries alone name words
slot-of : (c : Config) (es all : List Entry) (x y : Instant) (k : ℕ) → SlotWords c all x y k → ((f : ℕ → ℕ) (i : ℕ) → i < NODE_WORDS → swapped all f (node_address c k + i) ≡ swapped es f (node_address c k + i)) → SlotWords c es x y k
slot-of c es all x y k s same = record {
  within = λ i l. record {
    before = (s.within i l).before;
    resolved = (s.within i l).resolved;
    value = (s.within i l).value ∙ same x.value i l;
    durable_value = (s.within i l).durable_value ∙ same (resolve x.image) i l;
  };
  past = s.past;
  durable_past = s.durable_past;
  raw = s.raw;
}

-- words of another slot are none of the two
not-of-slot : (s : Scene) (w : RecordSwap) (k i : ℕ) → ((a : ℕ) → is_target (entries_of s.past.config w) a ≡ true → IsWordOf s w.slot a) → k ≢ w.slot → i < NODE_WORDS → is_target (entries_of s.past.config w) (node_address s.past.config k + i) ≡ false
not-of-slot s w k i places ne l = go (is_target (entries_of s.past.config w) (node_address s.past.config k + i)) refl
  where
    go : (t : Bool) → is_target (entries_of s.past.config w) (node_address s.past.config k + i) ≡ t → is_target (entries_of s.past.config w) (node_address s.past.config k + i) ≡ false
    go true e = let p = places (node_address s.past.config k + i) e in absurd (ne (slots_apart s.past.config k w.slot i p.place l p.within p.address).0)
    go false e = e

-- expected values of one of both
first-stands : (c : Config) (w v : RecordSwap) (x : Instant) → Stand (entries_of c w ++ entries_of c v) x → Stand (entries_of c w) x
first-stands c w v x stand = All-cons (λ (e : Entry). x.value e.target ≡ e.expected) (status_entry c w) (meta_entry c w ∷ []) (stand 0 (status_entry c w) (omega arith))
    (All-cons (λ (e : Entry). x.value e.target ≡ e.expected) (meta_entry c w) [] (stand 1 (status_entry c w) (omega arith)) (All-nil (λ (e : Entry). x.value e.target ≡ e.expected)))

second-stands : (c : Config) (w v : RecordSwap) (x : Instant) → Stand (entries_of c w ++ entries_of c v) x → Stand (entries_of c v) x
second-stands c w v x stand = All-cons (λ (e : Entry). x.value e.target ≡ e.expected) (status_entry c v) (meta_entry c v ∷ []) (stand 2 (status_entry c v) (omega arith))
    (All-cons (λ (e : Entry). x.value e.target ≡ e.expected) (meta_entry c v) [] (stand 3 (status_entry c v) (omega arith)) (All-nil (λ (e : Entry). x.value e.target ≡ e.expected)))

-- one change is a list of one
one-change : (change : Change) (n m : ℕ → ℕ) (lo hi : Option (List ℕ)) → SaysChange change n m lo hi → SaysChanges (change ∷ []) n m lo hi
one-change change n m lo hi a = record { range = (a.range, tt); before = (a.before, tt); after = a.after }

-- two rewrites of two leaves by one swap
module _ (s : Scene) (y : Instant) (w v : RecordSwap) (mw mv : Meta) (cw cv : Change) (entries : List Entry) (good : IsScene s) (f : IsRewrite w mw cw s) (g : IsRewrite v mv cv s) (ne : w.slot ≢ v.slot) (swaps : SwapsTo s.past.config entries (here s) y)
    (stand_w : Stand (entries_of s.past.config w) (here s)) (stand_v : Stand (entries_of s.past.config v) (here s)) (slot_w : SlotWords s.past.config (entries_of s.past.config w) (here s) y w.slot) (slot_v : SlotWords s.past.config (entries_of s.past.config v) (here s) y v.slot)
    (named : (a : ℕ) → is_target entries a ≡ true → (is_target (entries_of s.past.config w) a ≡ true) ⊎ (is_target (entries_of s.past.config v) a ≡ true)) where
  of-w : IsRewritten w cw s y
  of-w = rewriting-leaf s y w mw cw good f stand_w slot_w

  of-v : IsRewritten v cv s y
  of-v = rewriting-leaf s y v mv cv good g stand_v slot_v

  pair : IsPairSwap entries s w.slot v.slot y
  pair = record {
    swaps = swaps;
    first = of-w.leaf;
    second = of-v.leaf;
    place = λ a t. elim (named a t) [ inl p ↦ inl (of-w.place a p) | inr p ↦ inr (of-v.place a p) ];
    targets = λ a t. elim (named a t) [ inl p ↦ of-w.targets a p | inr p ↦ of-v.targets a p ];
  }

  makes-both : IsGoodForAll (cw ∷ cv ∷ []) entries s y
  makes-both = pair_swaps_make_changes.two entries s w.slot v.slot y (cw ∷ []) (cv ∷ []) good pair ne (one-change cw _ _ _ _ of-w.says) (one-change cv _ _ _ _ of-v.says)

  keys-differ : cw.key ≢ cv.key
  keys-differ = (pair_swaps_make_changes.apart s w.slot v.slot y (cw ∷ []) (cv ∷ []) good of-w.leaf of-v.leaf ne (one-change cw _ _ _ _ of-w.says) (one-change cv _ _ _ _ of-v.says)).0.0

-- a removal and a publication
module _ (s : Scene) (y : Instant) (r : NewRecord) (key : List ℕ) (k st place : ℕ) (e : Extent) (good : IsScene s) (f : Fits r) (w : WasReserved r s.past) (h : HasWritten r s) (o : WasRecord key r.payload k st place e s.past) (thawed : (status st).frozen ≡ false) (ne : k ≢ r.slot) where
  goes : Stand (entries_of s.past.config (removal k st place e)) (here s) → IsRewrite (removal k st place e) (Deleted e.key e.total) (deletes key r.payload) s
  goes stand = removals-rewrite s key r.payload k st place e good o thawed stand

  comes : Stand (entries_of s.past.config (publication r)) (here s) → IsRewrite (publication r) (Visible (place_of r)) (inserts r) s
  comes stand = publications-rewrite s r good f w h stand

  -- no word is of both
  not-new : (i : ℕ) → Stand (entries_of s.past.config (publication r)) (here s) → i < NODE_WORDS → is_target (entries_of s.past.config (publication r)) (node_address s.past.config k + i) ≡ false
  not-new i stand l = not-of-slot s (publication r) k i (before s (publication r) (Visible (place_of r)) (inserts r) good (comes stand) stand).words_of ne l

  not-old : (i : ℕ) → Stand (entries_of s.past.config (removal k st place e)) (here s) → i < NODE_WORDS → is_target (entries_of s.past.config (removal k st place e)) (node_address s.past.config r.slot + i) ≡ false
  not-old i stand l = not-of-slot s (removal k st place e) r.slot i (before s (removal k st place e) (Deleted e.key e.total) (deletes key r.payload) good (goes stand) stand).words_of (λ q. ne (sym q)) l

  move : (entries : List Entry) → SwapsTo s.past.config entries (here s) y → Stand (entries_of s.past.config (removal k st place e)) (here s) → Stand (entries_of s.past.config (publication r)) (here s)
      → ((g : ℕ → ℕ) (i : ℕ) → i < NODE_WORDS → swapped entries g (node_address s.past.config k + i) ≡ swapped (entries_of s.past.config (removal k st place e)) g (node_address s.past.config k + i))
      → ((g : ℕ → ℕ) (i : ℕ) → i < NODE_WORDS → swapped entries g (node_address s.past.config r.slot + i) ≡ swapped (entries_of s.past.config (publication r)) g (node_address s.past.config r.slot + i))
      → ((a : ℕ) → is_target entries a ≡ true → (is_target (entries_of s.past.config (removal k st place e)) a ≡ true) ⊎ (is_target (entries_of s.past.config (publication r)) a ≡ true)) → IsGoodMove r key entries s y
  move entries swaps old new of_old of_new named =
      let slot_old : SlotWords s.past.config (entries_of s.past.config (removal k st place e)) (here s) y k = slot-of s.past.config (entries_of s.past.config (removal k st place e)) entries (here s) y k (swaps_show_in_slots s.past.config entries (here s) y k swaps) of_old in
      let slot_new : SlotWords s.past.config (entries_of s.past.config (publication r)) (here s) y r.slot = slot-of s.past.config (entries_of s.past.config (publication r)) entries (here s) y r.slot (swaps_show_in_slots s.past.config entries (here s) y r.slot swaps) of_new in
      record {
        good = makes-both s y (removal k st place e) (publication r) (Deleted e.key e.total) (Visible (place_of r)) (deletes key r.payload) (inserts r) entries good (goes old) (comes new) ne swaps old new slot_old slot_new named;
        differ = keys-differ s y (removal k st place e) (publication r) (Deleted e.key e.total) (Visible (place_of r)) (deletes key r.payload) (inserts r) entries good (goes old) (comes new) ne swaps old new slot_old slot_new named;
      }

  in-order : Stand (entries_of s.past.config (removal k st place e) ++ entries_of s.past.config (publication r)) (here s) → SwapsTo s.past.config (entries_of s.past.config (removal k st place e) ++ entries_of s.past.config (publication r)) (here s) y
      → IsGoodMove r key (entries_of s.past.config (removal k st place e) ++ entries_of s.past.config (publication r)) s y
  in-order stand swaps =
      let old : Stand (entries_of s.past.config (removal k st place e)) (here s) = first-stands s.past.config (removal k st place e) (publication r) (here s) stand in
      let new : Stand (entries_of s.past.config (publication r)) (here s) = second-stands s.past.config (removal k st place e) (publication r) (here s) stand in
      move (entries_of s.past.config (removal k st place e) ++ entries_of s.past.config (publication r)) swaps old new
      (λ g i l. only-first (entries_of s.past.config (removal k st place e)) (entries_of s.past.config (publication r)) g (node_address s.past.config k + i) (not-new i new l))
      (λ g i l. only-second (entries_of s.past.config (removal k st place e)) (entries_of s.past.config (publication r)) g (node_address s.past.config r.slot + i) (not-old i old l))
      (target-append (entries_of s.past.config (removal k st place e)) (entries_of s.past.config (publication r)))

  in-other : Stand (entries_of s.past.config (publication r) ++ entries_of s.past.config (removal k st place e)) (here s) → SwapsTo s.past.config (entries_of s.past.config (publication r) ++ entries_of s.past.config (removal k st place e)) (here s) y
      → IsGoodMove r key (entries_of s.past.config (publication r) ++ entries_of s.past.config (removal k st place e)) s y
  in-other stand swaps =
      let new : Stand (entries_of s.past.config (publication r)) (here s) = first-stands s.past.config (publication r) (removal k st place e) (here s) stand in
      let old : Stand (entries_of s.past.config (removal k st place e)) (here s) = second-stands s.past.config (publication r) (removal k st place e) (here s) stand in
      move (entries_of s.past.config (publication r) ++ entries_of s.past.config (removal k st place e)) swaps old new
      (λ g i l. only-second (entries_of s.past.config (publication r)) (entries_of s.past.config (removal k st place e)) g (node_address s.past.config k + i) (not-new i new l))
      (λ g i l. only-first (entries_of s.past.config (publication r)) (entries_of s.past.config (removal k st place e)) g (node_address s.past.config r.slot + i) (not-old i old l))
      (λ a t. elim (target-append (entries_of s.past.config (publication r)) (entries_of s.past.config (removal k st place e)) a t) [ inl p ↦ inr p | inr p ↦ inl p ])

  pub moving-across : (entries : List Entry) → IsCrossing s.past.config r k st place e entries → Stand entries (here s) → SwapsTo s.past.config entries (here s) y → IsGoodMove r key entries s y
  moving-across entries (inl q) stand swaps =
      subst (λ z. IsGoodMove r key z s y) (sym q) (in-order (subst (λ z. Stand z (here s)) q stand) (subst (λ z. SwapsTo s.past.config z (here s) y) q swaps))
  moving-across entries (inr q) stand swaps =
      subst (λ z. IsGoodMove r key z s y) (sym q) (in-other (subst (λ z. Stand z (here s)) q stand) (subst (λ z. SwapsTo s.past.config z (here s) y) q swaps))
