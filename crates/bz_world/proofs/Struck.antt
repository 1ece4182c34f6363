-- The world once the effect of a swap is noted.
use Rattle.std.proofs.Common.{◌≡◌, ◌≢◌, ℕ, suc, ◌<◌, ◌≤◌, if◌then◌else◌, true, false, ◌∷◌, length, slice_index, slice_set, arith, refl, sym, ap, subst, ◌∙◌, inl, inr, Option, Some, None}
use Rattle.std.specs.Prelude.{get_or}
use Rattle.std.specs.Global.{Vec}
use Rattle.std.specs.Vec.{with_item}
use Rattle.std.proofs.lemmas.List.{get_or-set_same, get_or-set_other, length-set}
use Rattle.std.proofs.lemmas.Bool.{cases_eq}
use Rattle.bz_mark.specs.Log.{with_mark}
use Rattle.bz_mark.specs.declared.marks.Mark.TheVariants.{Effect}
use Rattle.bz_any_task.specs.Duties.{publishing_of}
use Rattle.bz_world.specs.Inside.Acted.{IsStriking}
use Rattle.bz_world.specs.Inside.Kept.{IsAwake}
use Rattle.bz_world.specs.Inside.Serving.{IsSlot, noted, pairs_after}
use Rattle.bz_world.specs.declared.parts.Parts.{Parts}
use Rattle.bz_world.specs.declared.serving.OpenCall.{OpenCall}
use Rattle.bz_world.proofs.Quiet.{within-crew}
use Rattle.bz_world.specs.Inside.Laws.{StrikeLaws}
use Rattle.bz_world.specs.Inside.Paid.{stock_of}
use Rattle.bz_world.proofs.Striking.{w, x, its, owner}
use Rattle.bz_world.proofs.StruckQuietly.{struck-quietly}
use Rattle.bz_world.proofs.Published.{published}
use Rattle.bz_world.proofs.Tabled.{tabled-beside}

-- a table of the same entries
pub kept-workers : (p : Parts) (workers : Vec (Option OpenCall)) → IsAwake p → length workers.items ≡ length p.workers.items → ((v : ℕ) → get_or workers.items v None ≡ get_or p.workers.items v None) → IsAwake (record p { workers = workers })
kept-workers p workers k size same = record {
  on = k.on;
  story = k.story;
  tabled = tabled-beside (record { workers = size; owners = refl; crew = refl; steps = refl; rest = refl }) k.tabled;
  taken = assumption k.taken;
  living = k.living;
  sound = k.sound;
  leaves = k.leaves;
  free = k.free;
  workers = λ v. subst (IsSlot p.config p.access p.journal k.story p.owners.items (stock_of p) v) (sym (same v)) (k.workers v);
  solitary = λ v x opened is. k.solitary v x opened (sym (same v) ∙ is);
}

pub in-owners : (b : StrikeLaws) (p : Parts) (s : ℕ) (h : IsStriking p s) → s < length p.owners.items
in-owners b p s h = omega (arith, (owner b p s h).begun, h.work.taken, h.taken.few, h.tabled.owner_places)

module _ (b : StrikeLaws) (p : Parts) (s : ℕ) (h : IsStriking p s) (v : ℕ) (named : v ≡ slice_index p.owners.items s) where
  pub worker-is : v ≡ w b p s h
  worker-is = named ∙ (ap (λ (q : Parts). slice_index q.owners.items s) h.rest ∙ (owner b p s h).owner)

  pub in-crew : v ≤ h.before.config.workers
  in-crew = subst (λ u. u ≤ h.before.config.workers) (sym worker-is) (within-crew h.before h.kept (w b p s h) (x b p s h) (owner b p s h).is)

  pub in-table : v < 65
  in-table = omega (arith, in-crew, h.kept.tabled.config.workers_in_range.at_most)

  table-size : length p.workers.items ≡ 65
  table-size = h.tabled.places

  same-table : p.workers ≡ h.before.workers
  same-table = ap (λ (q : Parts). q.workers) h.rest

  pub slot-was : get_or p.workers.items v None ≡ Some (x b p s h)
  slot-was = ap (λ z. get_or z.items v None) same-table ∙ (ap (λ u. get_or h.before.workers.items u None) worker-is ∙ (owner b p s h).is)

  -- the swap makes no change
  pub struck-silent : (slot : Option OpenCall) → slot ≡ noted (Some (x b p s h)) (length p.journal.past) → publishing_of (x b p s h).task ≡ false → IsAwake (record p { workers = with_item p.workers v slot })
  struck-silent slot is silent = kept-workers p (with_item p.workers v slot) (struck-quietly b p s h silent) (length-set p.workers.items v slot) same
    where
      slot-is : slot ≡ Some (x b p s h)
      slot-is = is ∙ ap (λ z. Some (if z then record (x b p s h) { effect = Some (length p.journal.past) } else x b p s h)) silent

      same : (u : ℕ) → get_or (slice_set p.workers.items v slot) u None ≡ get_or p.workers.items u None
      same u = elim (cases_eq u v) [
        | inl e ↦ ap (λ t. get_or (slice_set p.workers.items v slot) t None) e ∙ (get_or-set_same p.workers.items v slot None (omega (arith, table-size, in-table)) ∙ (slot-is ∙ (sym slot-was ∙ ap (λ t. get_or p.workers.items t None) (sym e))))
        | inr ne ↦ get_or-set_other p.workers.items v u slot None ne
      ]

  -- or it makes it
  pub struck-aloud : (slot : Option OpenCall) (n : ℕ) → slot ≡ noted (Some (x b p s h)) (length p.journal.past) → publishing_of (x b p s h).task ≡ true → n ≡ slice_index p.numbers.items v → length p.journal.past < p.config.marks
      → (count : ℕ) → count ≡ pairs_after slot p.pairs → IsAwake (record p { journal = with_mark p.journal (Effect v n); workers = with_item p.workers v slot; pairs = count })
  struck-aloud slot n is publishes number room count counted = subst (λ (q : Parts). IsAwake (record q { journal = with_mark q.journal (Effect v n); workers = with_item p.workers v slot; pairs = count })) (sym h.rest)
      (subst (λ u. IsAwake (record h.before { access = p.access; journal = with_mark (with_mark h.before.journal h.mark) (Effect u n); workers = with_item p.workers v slot; pairs = count })) (sym worker-is)
      (subst (λ m. IsAwake (record h.before { access = p.access; journal = with_mark (with_mark h.before.journal h.mark) (Effect (w b p s h) m); workers = with_item p.workers v slot; pairs = count })) (sym number-is)
      (published b p s h publishes (with_item p.workers v slot) (length-set p.workers.items v slot ∙ table-size) (let r : length (h.mark ∷ h.before.journal.past) < h.before.config.marks = subst (λ (q : Parts). length q.journal.past < q.config.marks) h.rest room in omega (arith, r)) here-is others-are count count-is)))
    where
      number-is : n ≡ (its b p s h).opened.number
      number-is = number ∙ (ap (λ (q : Parts). slice_index q.numbers.items v) h.rest ∙ (ap (λ u. slice_index h.before.numbers.items u) worker-is ∙ (h.kept.tabled.counted (w b p s h) (subst (λ u. u < 65) worker-is in-table)
          ∙ sym (b.last h.before.config h.before.at_start h.before.journal (w b p s h) (its b p s h).opened h.kept.sound (its b p s h).call_open.is_open).last)))

      moment-is : length p.journal.past ≡ suc (length h.before.journal.past)
      moment-is = ap (λ (q : Parts). length q.journal.past) h.rest

      slot-is : slot ≡ Some (record (x b p s h) { effect = Some (suc (length h.before.journal.past)) })
      slot-is = is ∙ (ap (λ z. Some (if z then record (x b p s h) { effect = Some (length p.journal.past) } else x b p s h)) publishes ∙ ap (λ m. Some (record (x b p s h) { effect = Some m })) moment-is)

      count-is : count ≡ pairs_after (Some (x b p s h)) h.before.pairs
      count-is = counted ∙ (ap (λ z. pairs_after z p.pairs) slot-is ∙ ap (λ (q : Parts). pairs_after (Some (x b p s h)) q.pairs) h.rest)

      here-is : get_or (slice_set p.workers.items v slot) (w b p s h) None ≡ Some (record (x b p s h) { effect = Some (suc (length h.before.journal.past)) })
      here-is = ap (λ t. get_or (slice_set p.workers.items v slot) t None) (sym worker-is) ∙ (get_or-set_same p.workers.items v slot None (omega (arith, table-size, in-table)) ∙ slot-is)

      others-are : (u : ℕ) → u ≢ w b p s h → get_or (slice_set p.workers.items v slot) u None ≡ get_or h.before.workers.items u None
      others-are u ne = get_or-set_other p.workers.items v u slot None (λ e. ne (e ∙ worker-is)) ∙ ap (λ z. get_or z.items u None) same-table
