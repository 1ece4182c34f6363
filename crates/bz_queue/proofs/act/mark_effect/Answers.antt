use Rattle.std.proofs.Common.{◌≡◌, length, ℕ, refl, ap, ◌∙◌, arith, slice_index, get_or, Option, Some, None}
use Rattle.std.specs.Prelude.{slice_set, option_map}
use Rattle.std.specs.Vec.{with_item, vec_len}
use Rattle.std.proofs.lemmas.List.{get_or_read_under}
use Rattle.bz_ring.specs.declared.marks.QMark.TheVariants.{Effect}
use Rattle.bz_ring.specs.Calls.{begun_calls}
use Rattle.bz_ring.specs.Journal.{QLog, with_mark}
use Rattle.bz_swap.specs.SwapMemory.{Swapping, doing_of}
use Rattle.bz_queue.specs.Inside.Acted.{IsStriking}
use Rattle.bz_queue.specs.Inside.Serving.{with_moment}
use Rattle.bz_queue.specs.declared.parts.Parts.{Parts}
use Rattle.bz_queue.specs.declared.serving.OpenCall.{OpenCall}
use Rattle.bz_queue.proofs.Effects.{swap-of, swap-inside, place-inside, number-inside, owner, serves, number, kept-struck}
use Rattle.bz_queue.proofs.act.mark_effect.Goals as goal

pub index-w-requires : goal.index-w-requires
index-w-requires c = let p = c.args.parts.now in omega (arith, swap-inside p c.args.swap c.requires.striking, p.owners.ok.0)

pub index-slot-requires : goal.index-slot-requires
index-slot-requires c = omega (arith, place-inside p c.args.swap h, named, vec-is)
  where
    p : Parts
    p = c.args.parts.now

    h : IsStriking p c.args.swap
    h = c.requires.striking

    named : c.index-w.result.now ≡ h.strikes.takes.worker
    named = get_or_read_under p.owners.items c.args.swap (length p.owners.items) c.index-w.result.now 0 c.index-w.ensures (swap-inside p c.args.swap h) refl ∙ owner p c.args.swap h

    vec-is : vec_len p.workers ≡ length p.workers.items
    vec-is = p.workers.ok.0

pub index_mut-requires : goal.index_mut-requires
index_mut-requires c = omega (arith, place-inside p c.args.swap h, named, vec-is)
  where
    p : Parts
    p = c.args.parts.now

    h : IsStriking p c.args.swap
    h = c.requires.striking

    named : c.index-w.result.now ≡ h.strikes.takes.worker
    named = get_or_read_under p.owners.items c.args.swap (length p.owners.items) c.index-w.result.now 0 c.index-w.ensures (swap-inside p c.args.swap h) refl ∙ owner p c.args.swap h

    vec-is : vec_len p.workers ≡ length p.workers.items
    vec-is = p.workers.ok.0

pub index-n-requires : goal.index-n-requires
index-n-requires c = omega (arith, number-inside p c.args.swap h, named, vec-is)
  where
    p : Parts
    p = c.args.parts.now

    h : IsStriking p c.args.swap
    h = c.requires.striking

    named : c.index-w.result.now ≡ h.strikes.takes.worker
    named = get_or_read_under p.owners.items c.args.swap (length p.owners.items) c.index-w.result.now 0 c.index-w.ensures (swap-inside p c.args.swap h) refl ∙ owner p c.args.swap h

    vec-is : vec_len p.last ≡ length p.last.items
    vec-is = p.last.ok.0

pub returns-clause-kept : goal.returns-clause-kept
returns-clause-kept c = kept-struck p c.args.swap h _ c.requires.room rest table
  where
    p : Parts
    p = c.args.parts.now

    h : IsStriking p c.args.swap
    h = c.requires.striking

    v : ℕ
    v = h.strikes.takes.worker

    u : ℕ
    u = c.index-w.result.now

    named : u ≡ v
    named = get_or_read_under p.owners.items c.args.swap (length p.owners.items) u 0 c.index-w.ensures (swap-inside p c.args.swap h) refl ∙ owner p c.args.swap h

    numbered : c.index-n.result.now ≡ begun_calls v h.before.journal.past
    numbered = get_or_read_under p.last.items u (length p.last.items) c.index-n.result.now 0 c.index-n.ensures (omega (arith, number-inside p c.args.swap h, named)) refl ∙ ap (slice_index p.last.items) named ∙ number p c.args.swap h

    was : c.index-slot.result.now ≡ Some (swap-of p c.args.swap h).x
    was = get_or_read_under p.workers.items u (length p.workers.items) c.index-slot.result.now None c.index-slot.ensures (omega (arith, place-inside p c.args.swap h, named)) refl
        ∙ ap (λ (k : ℕ). get_or p.workers.items k None) named ∙ serves p c.args.swap h

    journal : c.push.new.self ≡ with_mark p.journal (Effect v (begun_calls v h.before.journal.past))
    journal = c.push.ensures ∙ ap (λ (k : ℕ). with_mark p.journal (Effect k c.index-n.result.now)) named ∙ ap (λ (k : ℕ). with_mark p.journal (Effect v k)) numbered

    slot : c.with_effect.result ≡ Some (with_moment (length p.journal.past) (swap-of p c.args.swap h).x)
    slot = c.with_effect.ensures ∙ ap (option_map (with_moment c.length-moment.result)) was ∙ ap (λ (k : ℕ). let it : Option OpenCall = Some (with_moment k (swap-of p c.args.swap h).x) in it) c.length-moment.ensures

    new : Parts
    new = record p { journal = c.push.new.self; workers = with_item p.workers u c.with_effect.result }

    rest : record p { journal = c.push.new.self; workers = with_item p.workers u c.with_effect.result } ≡ record p { journal = with_mark p.journal (Effect v (begun_calls v h.before.journal.past)); workers = with_item p.workers u c.with_effect.result }
    rest = ap (λ (j : QLog). let after : Parts = record p { journal = j; workers = with_item p.workers u c.with_effect.result } in after) journal

    table : (with_item p.workers u c.with_effect.result).items ≡ slice_set p.workers.items v (Some (with_moment (length p.journal.past) (swap-of p c.args.swap h).x))
    table = ap (λ (k : ℕ). slice_set p.workers.items k c.with_effect.result) named ∙ ap (slice_set p.workers.items v) slot

pub returns-clause-marked : goal.returns-clause-marked
returns-clause-marked c = record {
  v = u;
  x = (swap-of p c.args.swap h).x;
  doing = doing;
  was = ap (λ (k : ℕ). get_or p.workers.items k None) named ∙ serves p c.args.swap h;
  table = ap (slice_set p.workers.items u) slot;
}
  where
    p : Parts
    p = c.args.parts.now

    h : IsStriking p c.args.swap
    h = c.requires.striking

    v : ℕ
    v = h.strikes.takes.worker

    u : ℕ
    u = c.index-w.result.now

    named : u ≡ v
    named = get_or_read_under p.owners.items c.args.swap (length p.owners.items) u 0 c.index-w.ensures (swap-inside p c.args.swap h) refl ∙ owner p c.args.swap h

    was : c.index-slot.result.now ≡ Some (swap-of p c.args.swap h).x
    was = get_or_read_under p.workers.items u (length p.workers.items) c.index-slot.result.now None c.index-slot.ensures (omega (arith, place-inside p c.args.swap h, named)) refl
        ∙ ap (λ (k : ℕ). get_or p.workers.items k None) named ∙ serves p c.args.swap h

    slot : c.with_effect.result ≡ Some (with_moment (length p.journal.past) (swap-of p c.args.swap h).x)
    slot = c.with_effect.ensures ∙ ap (option_map (with_moment c.length-moment.result)) was ∙ ap (λ (k : ℕ). let it : Option OpenCall = Some (with_moment k (swap-of p c.args.swap h).x) in it) c.length-moment.ensures

    doing : doing_of p.access u ≡ Swapping c.args.swap
    doing = ap (doing_of p.access) named ∙ ap (λ (q : Parts). doing_of q.access v) h.rest ∙ h.strikes.doing v ∙ h.strikes.takes.pending
