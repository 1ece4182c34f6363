-- An insert and an update go on: the leaf has the status that was viewed, or that which their first swap gave it, and the metadata word is
-- as it was.
use Rattle.std.proofs.Common.{◌≡◌, ℕ, ◌+◌, ◌≤◌, List, [], ◌∷◌, arith, refl, ap, subst, inl, inr}
use Rattle.bz_word.specs.Metas.{meta_word}
use Rattle.bz_word.specs.Statements.{IsCodec}
use Rattle.bz_word.specs.Statuses.{status_word, status, IsStatus, IsStatusWord}
use Rattle.bz_word.specs.declared.meta.Extent.{Extent}
use Rattle.bz_word.specs.declared.meta.Meta.TheVariants.{Reserved}
use Rattle.bz_word.specs.declared.status.Status.{Status}
use Rattle.bz_word.proofs.Lemmas.{statuses}
use Rattle.bz_task.specs.Scene.{Past, Scene, Waiting, IsScene, here}
use Rattle.bz_task.specs.Steps.{next_stamp}
use Rattle.bz_task.specs.Swaps.{Stand}
use Rattle.bz_task.specs.declared.view.KeyView.{KeyView}
use Rattle.bz_record.specs.Leaves.{WasLeafThen, HasSwapped, WasReserved}
use Rattle.bz_record.specs.Records.{size_of, place_of, HasRoom, Fits}
use Rattle.bz_record.specs.Replacing.{growth, replacement, status_grown, WasGrown}
use Rattle.bz_record.specs.Swaps.{entries_of, status_entry, meta_entry, reservation, publication, status_reserved}
use Rattle.bz_record.specs.declared.new_record.NewRecord.{NewRecord}
use Rattle.bz_insert.specs.Facts.{insert_asks, insert_made, insert_facts}
use Rattle.bz_insert.specs.declared.phase.InsertPhase.{InsertPhase}
use Rattle.bz_insert.specs.declared.phase.InsertPhase.TheVariants.{Reserve, Publish}
use Rattle.bz_mutate.specs.UpdateFacts.{update_asks, update_made, update_facts}
use Rattle.bz_mutate.specs.declared.update_phase.UpdatePhase.{UpdatePhase}
use Rattle.bz_mutate.specs.declared.update_phase.UpdatePhase.TheVariants.{Grow, Replace}
use Rattle.bz_undisturbed.specs.Undisturbed.{IsUndisturbed, GoesOn}
use Rattle.bz_undisturbed.specs.Changes.{InsertsGoOn, UpdatesGoOn}
use Rattle.bz_undisturbed.specs.Quiet.{IsQuietSince, HadEffects}
use Rattle.bz_undisturbed.proofs.Freezing.{one-stands}
use Rattle.bz_undisturbed.proofs.Going.{idles, swaps}
use Rattle.bz_undisturbed.proofs.Records.{two-stand, counted-as, blocked-as, leaf-status, meta-stands, free-word, swap-stands}
use Rattle.bz_undisturbed.proofs.Quiet.{undisturbed}

abbrev pub Statuses : Type 0
Statuses = IsCodec Status IsStatus IsStatusWord status_word status

-- one record more is counted after a reservation
reserved-count : (r : NewRecord) → Fits r → (status (status_reserved r)).count ≡ (status r.status).count + 1
reserved-count r f =
    let st : Status = record (status r.status) { count = (status r.status).count + 1; block = (status r.status).block + size_of r; dead = (status r.status).dead + size_of r; stamp = next_stamp (status r.status).stamp } in
    ap (λ z. z.count) (statuses.value st (record { count = omega (arith, f.room.fits); block = omega (arith, f.room.fits); dead = omega (arith, f.room.fits, f.dead); stamp = omega arith }))

module _ (s : Scene) (good : IsScene s) (m : ℕ) (q : IsQuietSince m s.past) where
  -- the free metadata word, while the leaf is as it was viewed
  reservation-stands : (r : NewRecord) (moment : ℕ) (w : WasLeafThen r.slot r.status moment s.past) → m ≤ moment → HasRoom r.status (size_of r) → Stand (entries_of s.past.config (reservation r)) (here s)
  reservation-stands r moment w from h =
      two-stand (status_entry s.past.config (reservation r)) (meta_entry s.past.config (reservation r)) s
      (leaf-status s good m q r.slot r.status moment w from)
      (meta-stands s good m q r.slot r.status moment w from (status r.status).count 0 (omega (arith, h.fits))
      (inr (inl (omega (arith, h.fits, blocked-as s good m q r.slot r.status moment w from))))
      (free-word s good m q r.slot r.status moment w from (omega (arith, h.fits))))

  pub publication-stands : (r : NewRecord) → Fits r → (was : WasReserved r s.past) → m ≤ was.moment → Stand (entries_of s.past.config (publication r)) (here s)
  publication-stands r f was from =
      two-stand (status_entry s.past.config (publication r)) (meta_entry s.past.config (publication r)) s
      (leaf-status s good m q r.slot (status_reserved r) was.moment was.leaf.leaf from)
      (meta-stands s good m q r.slot (status_reserved r) was.moment was.leaf.leaf from (status r.status).count (meta_word (Reserved (place_of r))) (omega (arith, f.room.fits))
      (inl (omega (arith, counted-as s good m q r.slot (status_reserved r) was.moment was.leaf.leaf from, reserved-count r f)))
      was.meta)

  growth-stands : (r : NewRecord) (moment : ℕ) (w : WasLeafThen r.slot r.status moment s.past) → m ≤ moment → Stand (growth s.past.config r ∷ []) (here s)
  growth-stands r moment w from = one-stands (growth s.past.config r) s (leaf-status s good m q r.slot r.status moment w from)

  pub replacement-stands : (r : NewRecord) (old : List ℕ) (place : ℕ) (e : Extent) (grown : WasGrown r old place e s.past) → m ≤ grown.was.moment → Stand (entries_of s.past.config (replacement r place e)) (here s)
  replacement-stands r old place e grown from = swap-stands s good m q (replacement r place e) r.key old e grown.was from refl

-- the first swap took effect before the moment at which the leaf is known to have its words
had-one : (k st m : ℕ) (p : Past) → WasLeafThen k st m p → HasSwapped m p → HadEffects 1 m p
had-one k st m p w h = record { since = w.since; now = w.now; effects = h }

module _ (s : Scene) (good : IsScene s) where
  -- so the second one stands
  publication-there : (r : NewRecord) → Fits r → WasReserved r s.past → IsUndisturbed 1 s.past → Stand (entries_of s.past.config (publication r)) (here s)
  publication-there r f w a =
      let q : IsQuietSince w.moment s.past = undisturbed.later s 1 w.moment good a (had-one r.slot (status_reserved r) w.moment s.past w.leaf.leaf w.swapped) in
      publication-stands s good w.moment q r f w (omega arith)

  replacement-there : (r : NewRecord) (old : List ℕ) (place : ℕ) (e : Extent) → WasGrown r old place e s.past → IsUndisturbed 1 s.past → Stand (entries_of s.past.config (replacement r place e)) (here s)
  replacement-there r old place e g a =
      let q : IsQuietSince g.was.moment s.past = undisturbed.later s 1 g.was.moment good a (had-one r.slot (status_grown r) g.was.moment s.past g.was.leaf.leaf g.swapped) in
      replacement-stands s good g.was.moment q r old place e g (omega arith)

  insert-goes : (r : NewRecord) (phase : InsertPhase) → insert_facts r phase Waiting s → IsUndisturbed (insert_made phase) s.past → GoesOn (insert_asks s.past.config r phase) (λ seen. ⊥) s
  insert-goes r Reserve f a =
      let v = f.1.viewed in
      swaps (entries_of s.past.config (reservation r)) (λ seen. ⊥) s (reservation-stands s good s.past.since (undisturbed.whole s good a) r v.moment v.leaf.leaf v.leaf.leaf.since f.1.room) (λ seen d. d)
  insert-goes r Publish f a = swaps (entries_of s.past.config (publication r)) (λ seen. ⊥) s (publication-there r f.1.fits f.1.reserved a) (λ seen d. d)
  insert-goes r phase f a = idles _ (λ seen. ⊥) s (λ entries e. absurd (cc)) (λ seen d. d)

  update-goes : (v : KeyView) (r : NewRecord) (phase : UpdatePhase) → update_facts v r phase Waiting s → IsUndisturbed (update_made phase) s.past → GoesOn (update_asks s.past.config r phase) (λ seen. ⊥) s
  update-goes v r (Grow f) k a =
      let w = k.1.was in
      swaps (growth s.past.config r ∷ []) (λ seen. ⊥) s (growth-stands s good s.past.since (undisturbed.whole s good a) r w.moment w.leaf.leaf w.leaf.leaf.since) (λ seen d. d)
  update-goes v r (Replace f) k a =
      swaps (entries_of s.past.config (replacement r f.place f.extent)) (λ seen. ⊥) s (replacement-there r k.1.pair.old f.place f.extent k.1.grown a) (λ seen d. d)
  update-goes v r phase k a = idles _ (λ seen. ⊥) s (λ entries e. absurd (cc)) (λ seen d. d)

pub inserts-go-on : InsertsGoOn
inserts-go-on t s same good f a = subst (λ z. GoesOn (insert_asks z t.added t.phase) (λ seen. ⊥) s) same (insert-goes s good t.added t.phase f a)

pub updates-go-on : UpdatesGoOn
updates-go-on t s same good f a = subst (λ z. GoesOn (update_asks z t.added t.phase) (λ seen. ⊥) s) same (update-goes s good t.view t.added t.phase f a)
