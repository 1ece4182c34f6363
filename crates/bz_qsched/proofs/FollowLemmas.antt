-- A world that has followed some items of a script, and one item more.
use Rattle.std.proofs.Common.{◌≡◌, ◌≢◌, ◌≤◌, ◌<◌, inl, inr, ℕ, zero, suc, ◌+◌, Bool, true, false, List, [], ◌∷◌, length, get_or, drop, refl, sym, ap, subst, ◌∙◌, arith, Option, Some, None}
use Rattle.std.specs.Prelude.{is_some, not, ◌&&◌}
use Rattle.std.proofs.lemmas.Grind.{common_steps}
use Rattle.std.proofs.lemmas.List.{drop_more}
use Rattle.bz_ring.specs.Content.{size_of}
use Rattle.bz_queue.specs.declared.open.Numbers.{Numbers}
use Rattle.bz_ring.specs.declared.marks.QMark.{QMark}
use Rattle.bz_script.specs.Order.{at_first as first_standing, may_come, after_kind}
use Rattle.bz_qscript.specs.ItemLaws.{IsItem, AreItems, AreInOrder}
use Rattle.bz_qscript.specs.Script.{kind_of}
use Rattle.bz_qscript.specs.declared.item.QItem.{QItem}
use Rattle.bz_qscript.specs.declared.item.QItem.TheVariants.{Queue, Arm, Run, Power}
use Rattle.bz_mark.specs.declared.power.Power.TheVariants as power
use Rattle.bz_qsched.specs.Points.{Point}
use Rattle.bz_qsched.specs.Queued.{Queued}
use Rattle.bz_qsched.specs.Runs.{point_of, Stays, IsCutPlan}
use Rattle.bz_qsched.specs.Scripts.{LeadsTo, LeadsToInPart}
use Rattle.bz_script.specs.declared.cut_plan.CutPlan.{CutPlan}
use Rattle.bz_queue.specs.QueueView.{QueueView, power_in}
use Rattle.bz_queue.specs.declared.answers.QLimit.{QLimit}
use Rattle.bz_qsched.specs.Items.{IsReadyFor, Leads, LeadsInPart, LeavesPower, IsDoneItem, IsStoppedItem, IsLedFrom, IsLedFromInPart}

-- so many items are done, and what the others lead to is what all of them lead to. These may stand where they do, with the cut
-- that is armed, if one is, and whether one was used up; and where none was, so that a run may follow, the power is on.
pub record Staged (items : List QItem) (i : ℕ) (armed : Option CutPlan) (first : Point) (old world : QueueView) (queue : Queued) : Type 0 where
  pub on : Stays old world
  pub steady : power_in world ≢ power.Recovering
  pub room : length items ≤ queue.room + i
  pub used : Bool
  pub order : AreInOrder (record { armed = is_some armed; used = used }) (drop i items)
  pub powered : used ≡ false → power_in world ≡ power.On
  pub cut : IsCutPlan armed
  pub follows : (new : List QMark) → LeadsTo old.log.start (size_of old.numbers.ring) armed (point_of world queue) (drop i items) new → LeadsTo old.log.start (size_of old.numbers.ring) None first items new
  pub in_part : (why : QLimit) (new : List QMark) → LeadsToInPart why old.log.most old.numbers.calls old.log.start (size_of old.numbers.ring) armed (point_of world queue) (drop i items) new → LeadsToInPart why old.log.most old.numbers.calls old.log.start (size_of old.numbers.ring) None first items new

pub item_at : (items : List QItem) (i : ℕ) (item : QItem) → AreItems items → i < length items → item ≡ get_or items i item → IsItem item
item_at [] i item all lt is = absurd (omega arith)
item_at (x ∷ items) zero item all lt is = rw is all.0
item_at (x ∷ items) (suc i) item all lt is = item_at items i item all.1 (omega arith) is

pub here_is : (items : List QItem) (i : ℕ) (item : QItem) → i < length items → item ≡ get_or items i item → drop i items ≡ item ∷ drop (i + 1) items
here_is items i item lt is = drop_more items i item lt ∙ ap (λ (x : QItem). x ∷ drop (i + 1) items) (sym is)

-- nothing is done yet
pub staged_none : (items : List QItem) (old : QueueView) (queue : Queued) → power_in old ≢ power.Recovering → power_in old ≡ power.On → length items ≤ queue.room → AreInOrder first_standing items → Staged items 0 None (point_of old queue) old old queue
staged_none items old queue steady on fits order = record {
  on = record { numbers = refl; start = refl; most = refl };
  steady = steady;
  room = omega (arith, fits);
  used = false;
  order = order;
  powered = λ free. on;
  cut = tt;
  follows = λ marks h. h;
  in_part = λ why marks h. h;
}

-- the item may be done now
not_used : (used armed takes : Bool) → (not used && not (armed && takes)) ≡ true → used ≡ false
not_used true armed takes h = absurd (cc h)
not_used false armed takes h = refl

ready_by : (world : QueueView) (armed : Option CutPlan) (used : Bool) (item : QItem) → may_come (record { armed = is_some armed; used = used }) (kind_of item) ≡ true → (used ≡ false → power_in world ≡ power.On) → IsReadyFor world item
ready_by world armed used (Queue w call) may powered = tt
ready_by world armed used (Arm cut) may powered = tt
ready_by world armed used (Run plan) may powered = powered (not_used used (is_some armed) (not true) may)
ready_by world armed used Power may powered = tt

pub staged_ready : (items : List QItem) (i : ℕ) (item : QItem) (armed : Option CutPlan) (first : Point) (old world : QueueView) (queue : Queued) → Staged items i armed first old world queue → AreItems items → i < length items → item ≡ get_or items i item → IsItem item × IsReadyFor world item
staged_ready items i item armed first old world queue s all lt is =
    let order : AreInOrder (record { armed = is_some armed; used = s.used }) (item ∷ drop (i + 1) items) = subst (AreInOrder (record { armed = is_some armed; used = s.used })) (here_is items i item lt is) s.order in
    (item_at items i item all lt is, ready_by world armed s.used item order.0 s.powered)

-- whether a cut was used up after an item, and what follows may stand where it does
abbrev used_then : Bool → Option CutPlan → QItem → Bool
used_then used armed (Queue w call) = used
used_then used armed (Arm cut) = used
used_then used armed (Run plan) = is_some armed
used_then used armed Power = is_some armed

order_then : (start : List ℕ) (words : ℕ) (armed next : Option CutPlan) (used : Bool) (p q : Point) (item : QItem) (items : List QItem) → Leads start words armed p item next q
    → AreInOrder (after_kind (record { armed = is_some armed; used = used }) (kind_of item)) items → AreInOrder (record { armed = is_some next; used = used_then used armed item }) items
order_then start words armed next used p q (Queue w call) items leads order = rw leads.0 order
order_then start words armed next used p q (Arm cut) items leads order = rw leads.0 order
order_then start words armed next used p q (Run plan) items leads order = rw leads.0 order
order_then start words armed next used p q Power items leads order = rw leads.0 order

none_armed : (armed : Option CutPlan) → is_some armed ≡ false → armed ≡ None
none_armed None is = refl
none_armed (Some cut) is = absurd (cc is)

powered_then : (armed : Option CutPlan) (used : Bool) (old new : QueueView) (item : QItem) → LeavesPower armed old item new → (used ≡ false → power_in old ≡ power.On) → used_then used armed item ≡ false → power_in new ≡ power.On
powered_then armed used old new (Queue w call) leaves powered free = leaves ∙ powered free
powered_then armed used old new (Arm cut) leaves powered free = leaves ∙ powered free
powered_then armed used old new (Run plan) leaves powered free = leaves (none_armed armed free)
powered_then armed used old new Power leaves powered free = leaves (none_armed armed free)

-- an item, and then those behind it
then_leads : (start : List ℕ) (words : ℕ) (armed next : Option CutPlan) (p q : Point) (item : QItem) (items : List QItem) (new : List QMark) → Leads start words armed p item next q → LeadsTo start words next q items new → LeadsTo start words armed p (item ∷ items) new
then_leads start words armed next p q (Queue w call) items new leads rest = rw (leads.0, leads.1) at rest
then_leads start words armed next p q (Arm cut) items new leads rest = rw (leads.0, leads.1) at rest
then_leads start words armed next p q (Run plan) items new leads rest = (q, leads.1, rw leads.0 at rest)
then_leads start words armed next p q Power items new leads rest = (q, leads.1, rw leads.0 at rest)

then_in_part : (why : QLimit) (marks calls : ℕ) (start : List ℕ) (words : ℕ) (armed next : Option CutPlan) (p q : Point) (item : QItem) (items : List QItem) (new : List QMark) → Leads start words armed p item next q → LeadsToInPart why marks calls start words next q items new
    → LeadsToInPart why marks calls start words armed p (item ∷ items) new
then_in_part why marks calls start words armed next p q (Queue w call) items new leads rest = rw (leads.0, leads.1) at rest
then_in_part why marks calls start words armed next p q (Arm cut) items new leads rest = rw (leads.0, leads.1) at rest
then_in_part why marks calls start words armed next p q (Run plan) items new leads rest = inr (q, leads.1, rw leads.0 at rest)
then_in_part why marks calls start words armed next p q Power items new leads rest = inr (q, leads.1, rw leads.0 at rest)

here_in_part : (why : QLimit) (marks calls : ℕ) (start : List ℕ) (words : ℕ) (armed : Option CutPlan) (p q : Point) (item : QItem) (items : List QItem) → LeadsInPart why marks calls start words armed p item q → LeadsToInPart why marks calls start words armed p (item ∷ items) q.past
here_in_part why marks calls start words armed p q (Queue w call) items stops = absurd stops
here_in_part why marks calls start words armed p q (Arm cut) items stops = absurd stops
here_in_part why marks calls start words armed p q (Run plan) items stops = inl (q, stops.0, stops.1, refl)
here_in_part why marks calls start words armed p q Power items stops = inl (q, stops.0, stops.1, refl)

module _ (items : List QItem) (i : ℕ) (item : QItem) (armed : Option CutPlan) (first : Point) (old world : QueueView) (queue : Queued) (s : Staged items i armed first old world queue) (lt : i < length items) (is : item ≡ get_or items i item) where
  -- an item more is done
  pub staged_more : (next : Option CutPlan) (new : QueueView) (left : Queued) → IsDoneItem armed world queue item next new left → Staged items (i + 1) next first old new left
  staged_more next new left d =
      let here = here_is items i item lt is in
      let order : AreInOrder (record { armed = is_some armed; used = s.used }) (item ∷ drop (i + 1) items) = subst (AreInOrder (record { armed = is_some armed; used = s.used })) here s.order in
      let leads : Leads old.log.start (size_of old.numbers.ring) armed (point_of world queue) item next (point_of new left) =
      subst (λ (start : List ℕ). Leads start (size_of old.numbers.ring) armed (point_of world queue) item next (point_of new left)) s.on.start
      (subst (λ (n : Numbers). Leads world.log.start (size_of n.ring) armed (point_of world queue) item next (point_of new left)) s.on.numbers d.leads) in
      record {
        on = record { numbers = d.stays.numbers ∙ s.on.numbers; start = d.stays.start ∙ s.on.start; most = d.stays.most ∙ s.on.most };
        steady = d.steady;
        room = omega (arith, s.room, d.room);
        used = used_then s.used armed item;
        order = order_then _ _ armed next s.used _ _ item (drop (i + 1) items) leads order.1;
        powered = powered_then armed s.used world new item d.power s.powered;
        cut = d.cut;
        follows = λ marks rest. s.follows marks (rw here (then_leads _ _ armed next _ _ item (drop (i + 1) items) marks leads rest));
        in_part = λ why marks rest. s.in_part why marks (rw here (then_in_part why _ _ _ _ armed next _ _ item (drop (i + 1) items) marks leads rest));
      }

  -- it meets a limit
  pub staged_met : (why : QLimit) (new : QueueView) → IsStoppedItem why armed world queue item new → IsLedFromInPart first old items why new
  staged_met why new d =
      let here = here_is items i item lt is in
      let leads : LeadsInPart why old.log.most old.numbers.calls old.log.start (size_of old.numbers.ring) armed (point_of world queue) item d.at =
      subst (λ (start : List ℕ). LeadsInPart why old.log.most old.numbers.calls start (size_of old.numbers.ring) armed (point_of world queue) item d.at) s.on.start
      (subst (λ (n : Numbers). LeadsInPart why old.log.most n.calls world.log.start (size_of n.ring) armed (point_of world queue) item d.at) s.on.numbers
      (subst (λ (marks : ℕ). LeadsInPart why marks world.numbers.calls world.log.start (size_of world.numbers.ring) armed (point_of world queue) item d.at) s.on.most d.leads)) in
      record {
        on = record { numbers = d.stays.numbers ∙ s.on.numbers; start = d.stays.start ∙ s.on.start; most = d.stays.most ∙ s.on.most };
        follows = s.in_part why new.log.past (rw here (subst (LeadsToInPart why old.log.most old.numbers.calls old.log.start (size_of old.numbers.ring) armed (point_of world queue) (item ∷ drop (i + 1) items)) d.past (here_in_part why _ _ _ _ armed _ d.at item (drop (i + 1) items) leads)));
      }

-- all items are done
pub staged_done : (items : List QItem) (i : ℕ) (armed : Option CutPlan) (first : Point) (old world : QueueView) (queue : Queued) → Staged items i armed first old world queue → length items ≤ i → IsLedFrom first old items world
staged_done items i armed first old world queue s all =
    let none : drop i items ≡ [] = grind (arith, common_steps) in
    record { on = s.on; follows = s.follows world.log.past (rw none refl) }
