use Rattle.std.proofs.Common.{◌≡◌, length, ℕ, List, ◌∷◌, refl, sym, ap, subst, ◌∙◌, ◌<◌, arith, slice_index, slice_set, inl, inr, Some, None}
use Rattle.std.specs.Vec.{with_item, vec_len}
use Rattle.std.proofs.lemmas.List.{get_or_read_under, get_or-set_same, length-set}
use Rattle.bz_mark.specs.Log.{Log}
use Rattle.bz_mark.specs.declared.marks.Mark.{Mark}
use Rattle.bz_mark.specs.declared.marks.Mark.TheVariants.{Effect}
use Rattle.bz_world.specs.Inside.Acted.{IsStriking}
use Rattle.bz_world.specs.Inside.Kept.{IsAwake}
use Rattle.bz_world.specs.declared.parts.Parts.{Parts}
use Rattle.bz_world.specs.Inside.Serving.{noted, is_publishing, pairs_after}
use Rattle.bz_world.specs.Inside.Laws.{StrikeLaws}
use Rattle.bz_world.proofs.Striking.{x}
use Rattle.bz_world.proofs.Struck.{in-owners, in-table, slot-was, struck-silent, struck-aloud}
use Rattle.bz_world.proofs.mark_effect.mark_effect.Goals as goal

pub index_mut-requires : goal.index_mut-requires
index_mut-requires c = omega (arith, in-table b p c.args.swap h v named, h.tabled.places, vec-is)
  where
    b : StrikeLaws
    b = c.strike_laws.ensures

    p : Parts
    p = c.args.parts.now

    h : IsStriking p c.args.swap
    h = c.requires.striking

    v : ℕ
    v = c.index-w.result.now

    named : v ≡ slice_index p.owners.items c.args.swap
    named = get_or_read_under p.owners.items c.args.swap (length p.owners.items) v 0 c.index-w.ensures (in-owners b p c.args.swap h) refl

    vec-is : vec_len p.workers ≡ length p.workers.items
    vec-is = p.workers.ok.0

pub index-n-requires : goal.index-n-requires
index-n-requires c = omega (arith, in-table b p c.args.swap h v named, h.tabled.number_places, vec-is)
  where
    b : StrikeLaws
    b = c.strike_laws.ensures

    p : Parts
    p = c.args.parts.now

    h : IsStriking p c.args.swap
    h = c.requires.striking

    v : ℕ
    v = c.index-w.result.now

    named : v ≡ slice_index p.owners.items c.args.swap
    named = get_or_read_under p.owners.items c.args.swap (length p.owners.items) v 0 c.index-w.ensures (in-owners b p c.args.swap h) refl

    vec-is : vec_len p.numbers ≡ length p.numbers.items
    vec-is = p.numbers.ok.0

pub index-requires : goal.index-requires
index-requires c = omega (arith, in-table b p c.args.swap h v named, h.tabled.places, vec-is, length-set p.workers.items v c.note_effect.new.slot)
  where
    b : StrikeLaws
    b = c.strike_laws.ensures

    p : Parts
    p = c.args.parts.now

    h : IsStriking p c.args.swap
    h = c.requires.striking

    v : ℕ
    v = c.index-w.result.now

    named : v ≡ slice_index p.owners.items c.args.swap
    named = get_or_read_under p.owners.items c.args.swap (length p.owners.items) v 0 c.index-w.ensures (in-owners b p c.args.swap h) refl

    vec-is : vec_len (with_item p.workers v c.note_effect.new.slot) ≡ length (slice_set p.workers.items v c.note_effect.new.slot)
    vec-is = (with_item p.workers v c.note_effect.new.slot).ok.0

pub returns-then-note_effect : goal.returns-then-note_effect
returns-then-note_effect c = record {
  kept = subst (λ (j : Log). IsAwake (record p { journal = j; workers = with_item p.workers v c.note_effect.new.slot; pairs = c.count_pairs-parts.result })) (sym c.push.ensures)
      (struck-aloud b p c.args.swap h v named c.note_effect.new.slot c.index-n.result.now slot-is (sym publishes ∙ c.if-note_effect.true)
      (get_or_read_under p.numbers.items v (length p.numbers.items) c.index-n.result.now 0 c.index-n.ensures (omega (arith, in-table b p c.args.swap h v named, h.tabled.number_places)) refl) c.requires.room c.count_pairs-parts.result counted);
  struck = inr (v, (c.index-n.result.now, marked));
  rest = ap (λ (j : Log). record p { journal = j; workers = with_item p.workers v c.note_effect.new.slot; pairs = c.count_pairs-parts.result }) (c.push.ensures ∙ ap (λ (past : List Mark). record p.journal { past = past }) (sym marked));
}
  where
    b : StrikeLaws
    b = c.strike_laws.ensures

    p : Parts
    p = c.args.parts.now

    h : IsStriking p c.args.swap
    h = c.requires.striking

    v : ℕ
    v = c.index-w.result.now

    named : v ≡ slice_index p.owners.items c.args.swap
    named = get_or_read_under p.owners.items c.args.swap (length p.owners.items) v 0 c.index-w.ensures (in-owners b p c.args.swap h) refl

    was : c.index_mut.result.now ≡ Some (x b p c.args.swap h)
    was = get_or_read_under p.workers.items v (length p.workers.items) c.index_mut.result.now None c.index_mut.ensures.value (omega (arith, in-table b p c.args.swap h v named, h.tabled.places)) refl ∙ slot-was b p c.args.swap h v named

    slot-is : c.note_effect.new.slot ≡ noted (Some (x b p c.args.swap h)) (length p.journal.past)
    slot-is = c.note_effect.ensures.noted ∙ (ap (λ z. noted z c.length-moment.result) was ∙ ap (noted (Some (x b p c.args.swap h))) c.length-moment.ensures)

    publishes : c.note_effect.result ≡ is_publishing (Some (x b p c.args.swap h))
    publishes = c.note_effect.ensures.publishes ∙ ap is_publishing was

    within : v < length p.workers.items
    within = omega (arith, in-table b p c.args.swap h v named, h.tabled.places)

    counted : c.count_pairs-parts.result ≡ pairs_after c.note_effect.new.slot p.pairs
    counted = c.count_pairs-parts.ensures ∙ ap (λ z. pairs_after z p.pairs)
        (get_or_read_under (slice_set p.workers.items v c.note_effect.new.slot) v (length p.workers.items) c.index.result.now None c.index.ensures within (sym (length-set p.workers.items v c.note_effect.new.slot))
        ∙ get_or-set_same p.workers.items v c.note_effect.new.slot None within)

    marked : c.push.new.self.past ≡ Effect v c.index-n.result.now ∷ p.journal.past
    marked = ap (λ (j : Log). j.past) c.push.ensures

pub returns-else-note_effect : goal.returns-else-note_effect
returns-else-note_effect c = record {
  kept = struck-silent b p c.args.swap h v named c.note_effect.new.slot slot-is (sym publishes ∙ c.if-note_effect.false);
  struck = inl refl;
  rest = refl;
}
  where
    b : StrikeLaws
    b = c.strike_laws.ensures

    p : Parts
    p = c.args.parts.now

    h : IsStriking p c.args.swap
    h = c.requires.striking

    v : ℕ
    v = c.index-w.result.now

    named : v ≡ slice_index p.owners.items c.args.swap
    named = get_or_read_under p.owners.items c.args.swap (length p.owners.items) v 0 c.index-w.ensures (in-owners b p c.args.swap h) refl

    was : c.index_mut.result.now ≡ Some (x b p c.args.swap h)
    was = get_or_read_under p.workers.items v (length p.workers.items) c.index_mut.result.now None c.index_mut.ensures.value (omega (arith, in-table b p c.args.swap h v named, h.tabled.places)) refl ∙ slot-was b p c.args.swap h v named

    slot-is : c.note_effect.new.slot ≡ noted (Some (x b p c.args.swap h)) (length p.journal.past)
    slot-is = c.note_effect.ensures.noted ∙ (ap (λ z. noted z c.length-moment.result) was ∙ ap (noted (Some (x b p c.args.swap h))) c.length-moment.ensures)

    publishes : c.note_effect.result ≡ is_publishing (Some (x b p c.args.swap h))
    publishes = c.note_effect.ensures.publishes ∙ ap is_publishing was

pub count_pairs-parts-requires : goal.count_pairs-parts-requires
count_pairs-parts-requires c = let t = c.requires.striking.tabled in omega (arith, t.pairs.few, t.marks, t.config.marks_in_range.at_most)

pub push-requires : goal.push-requires
push-requires c = record { place = subst (λ l. length c.args.parts.now.journal.past < l.marks) (sym c.requires.striking.tabled.limits) c.requires.room; table = tt }
