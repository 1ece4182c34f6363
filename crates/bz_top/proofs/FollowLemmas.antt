-- A world that has followed some items of a script, and one item more.
use Rattle.std.proofs.Common.{◌≡◌, ◌≢◌, ◌≤◌, ◌<◌, inl, inr, ℕ, zero, suc, ◌+◌, Bool, true, false, List, [], ◌∷◌, length, get_or, drop, refl, sym, ap, subst, ◌∙◌, arith, Option, Some, None}
use Rattle.std.specs.Prelude.{is_some, not, ◌&&◌}
use Rattle.std.proofs.lemmas.Grind.{common_steps}
use Rattle.std.proofs.lemmas.List.{drop_more}
use Rattle.bz_layout.specs.Addresses.{words_of}
use Rattle.bz_layout.specs.declared.config.Config.{Config}
use Rattle.bz_mark.specs.Log.{Limits}
use Rattle.bz_mark.specs.declared.marks.Mark.{Mark}
use Rattle.bz_script.specs.ItemLaws.{IsItem, AreItems}
use Rattle.bz_script.specs.Order.{at_first as first_standing, takes_no_cut, may_stand, after, AreInOrder}
use Rattle.bz_script.specs.declared.item.Item.{Item}
use Rattle.bz_script.specs.declared.item.Item.TheVariants.{Queue, Arm, Run, Power}
use Rattle.bz_mark.specs.declared.power.Power.{Power as State}
use Rattle.bz_mark.specs.declared.power.Power.TheVariants as power
use Rattle.bz_sched.specs.Points.{Point}
use Rattle.bz_sched.specs.Queued.{Queued}
use Rattle.bz_sched.specs.Runs.{point_of, Stays, IsCutPlan}
use Rattle.bz_sched.specs.Scripts.{LeadsTo, LeadsToInPart, LeadsToWant}
use Rattle.bz_script.specs.declared.cut_plan.CutPlan.{CutPlan}
use Rattle.bz_sched.specs.FromWorld.WorldView.{WorldView, power_in}
use Rattle.bz_sched.specs.FromWorld.LimitKind.{LimitKind}
use Rattle.bz_top.specs.Items.{IsReadyFor, Leads, LeadsInPart, LeadsToWantIn, LeavesPower, IsDoneItem, IsStoppedItem, IsWantingItem, IsLedFrom, IsLedFromInPart, IsLedFromToWant}

-- so many items are done, and what the others lead to is what all of them lead to. These may stand where they do, with the cut
-- that is armed, if one is, and whether one was used up; and where none was, so that a run may follow, the power is on.
pub record Staged (items : List Item) (i : ℕ) (armed : Option CutPlan) (first : Point) (old world : WorldView) (queue : Queued) : Type 0 where
  pub on : Stays old world
  pub steady : power_in world ≢ power.Recovering
  pub room : length items ≤ queue.room + i
  pub used : Bool
  pub order : AreInOrder (record { armed = is_some armed; used = used }) (drop i items)
  pub powered : used ≡ false → power_in world ≡ power.On
  pub cut : IsCutPlan armed
  pub follows : (new : List Mark) → LeadsTo old.at_start old.log.start (words_of old.config) armed (point_of world queue) (drop i items) new → LeadsTo old.at_start old.log.start (words_of old.config) None first items new
  pub in_part : (why : LimitKind) (new : List Mark) → LeadsToInPart why old.log.limits old.at_start old.log.start (words_of old.config) armed (point_of world queue) (drop i items) new → LeadsToInPart why old.log.limits old.at_start old.log.start (words_of old.config) None first items new
  pub to_want : (new : List Mark) → LeadsToWant old.at_start old.log.start (words_of old.config) armed (point_of world queue) (drop i items) new → LeadsToWant old.at_start old.log.start (words_of old.config) None first items new

pub item_at : (items : List Item) (i : ℕ) (item : Item) → AreItems items → i < length items → item ≡ get_or items i item → IsItem item
item_at [] i item all lt is = absurd (omega arith)
item_at (x ∷ items) zero item all lt is = rw is all.0
item_at (x ∷ items) (suc i) item all lt is = item_at items i item all.1 (omega arith) is

pub here_is : (items : List Item) (i : ℕ) (item : Item) → i < length items → item ≡ get_or items i item → drop i items ≡ item ∷ drop (i + 1) items
here_is items i item lt is = drop_more items i item lt ∙ ap (λ (x : Item). x ∷ drop (i + 1) items) (sym is)

-- nothing is done yet
pub staged_none : (items : List Item) (old : WorldView) (queue : Queued) → power_in old ≢ power.Recovering → power_in old ≡ power.On → length items ≤ queue.room → AreInOrder first_standing items → Staged items 0 None (point_of old queue) old old queue
staged_none items old queue steady on fits order = record {
  on = record { config = refl; at_start = refl; start = refl; limits = refl };
  steady = steady;
  room = omega (arith, fits);
  used = false;
  order = order;
  powered = λ free. on;
  cut = tt;
  follows = λ marks h. h;
  in_part = λ why marks h. h;
  to_want = λ marks h. h;
}

-- the item may be done now
not_used : (used armed takes : Bool) → (not used && not (armed && takes)) ≡ true → used ≡ false
not_used true armed takes h = absurd (cc h)
not_used false armed takes h = refl

not_armed : (used : Bool) (armed : Option CutPlan) (takes : Bool) → (not used && not (is_some armed && not (not takes))) ≡ true → takes ≡ true → armed ≡ None
not_armed used None takes h is = refl
not_armed true (Some cut) takes h is = absurd (cc h)
not_armed false (Some cut) true h is = absurd (cc h)
not_armed false (Some cut) false h is = absurd (cc is)

ready_by : (world : WorldView) (armed : Option CutPlan) (used : Bool) (item : Item) → IsItem item → may_stand (record { armed = is_some armed; used = used }) item ≡ true → (used ≡ false → power_in world ≡ power.On) → IsReadyFor armed world item
ready_by world armed used (Queue w call) is may powered = is
ready_by world armed used (Arm flush seed) is may powered = is
ready_by world armed used (Run plan) is may powered = (is, powered (not_used used (is_some armed) (not (not (takes_no_cut plan))) may), not_armed used armed (takes_no_cut plan) may)
ready_by world armed used Power is may powered = tt

pub staged_ready : (items : List Item) (i : ℕ) (item : Item) (armed : Option CutPlan) (first : Point) (old world : WorldView) (queue : Queued) → Staged items i armed first old world queue → AreItems items → i < length items → item ≡ get_or items i item → IsReadyFor armed world item
staged_ready items i item armed first old world queue s all lt is =
    let order : AreInOrder (record { armed = is_some armed; used = s.used }) (item ∷ drop (i + 1) items) = subst (AreInOrder (record { armed = is_some armed; used = s.used })) (here_is items i item lt is) s.order in
    ready_by world armed s.used item (item_at items i item all lt is) order.0 s.powered

-- whether a cut was used up after an item, and what follows may stand where it does
abbrev used_then : Bool → Option CutPlan → Item → Bool
used_then used armed (Queue w call) = used
used_then used armed (Arm flush seed) = used
used_then used armed (Run plan) = is_some armed
used_then used armed Power = is_some armed

order_then : (at_start : State) (start : List ℕ) (words : ℕ) (armed next : Option CutPlan) (used : Bool) (p q : Point) (item : Item) (items : List Item) → Leads at_start start words armed p item next q
    → AreInOrder (after (record { armed = is_some armed; used = used }) item) items → AreInOrder (record { armed = is_some next; used = used_then used armed item }) items
order_then at_start start words armed next used p q (Queue w call) items leads order = rw leads.0 order
order_then at_start start words armed next used p q (Arm flush seed) items leads order = rw leads.0 order
order_then at_start start words armed next used p q (Run plan) items leads order = rw leads.0 order
order_then at_start start words armed next used p q Power items leads order = rw leads.0 order

none_armed : (armed : Option CutPlan) → is_some armed ≡ false → armed ≡ None
none_armed None is = refl
none_armed (Some cut) is = absurd (cc is)

powered_then : (armed : Option CutPlan) (used : Bool) (old new : WorldView) (item : Item) → LeavesPower armed old item new → (used ≡ false → power_in old ≡ power.On) → used_then used armed item ≡ false → power_in new ≡ power.On
powered_then armed used old new (Queue w call) leaves powered free = leaves ∙ powered free
powered_then armed used old new (Arm flush seed) leaves powered free = leaves ∙ powered free
powered_then armed used old new (Run plan) leaves powered free = leaves (none_armed armed free)
powered_then armed used old new Power leaves powered free = leaves (none_armed armed free)

-- an item, and then those behind it
then_leads : (at_start : State) (start : List ℕ) (words : ℕ) (armed next : Option CutPlan) (p q : Point) (item : Item) (items : List Item) (new : List Mark) → Leads at_start start words armed p item next q → LeadsTo at_start start words next q items new → LeadsTo at_start start words armed p (item ∷ items) new
then_leads at_start start words armed next p q (Queue w call) items new leads rest = rw (leads.0, leads.1) at rest
then_leads at_start start words armed next p q (Arm flush seed) items new leads rest = rw (leads.0, leads.1) at rest
then_leads at_start start words armed next p q (Run plan) items new leads rest = (q, leads.1, rw leads.0 at rest)
then_leads at_start start words armed next p q Power items new leads rest = (q, leads.1, rw leads.0 at rest)

then_in_part : (why : LimitKind) (limits : Limits) (at_start : State) (start : List ℕ) (words : ℕ) (armed next : Option CutPlan) (p q : Point) (item : Item) (items : List Item) (new : List Mark) → Leads at_start start words armed p item next q → LeadsToInPart why limits at_start start words next q items new
    → LeadsToInPart why limits at_start start words armed p (item ∷ items) new
then_in_part why limits at_start start words armed next p q (Queue w call) items new leads rest = rw (leads.0, leads.1) at rest
then_in_part why limits at_start start words armed next p q (Arm flush seed) items new leads rest = rw (leads.0, leads.1) at rest
then_in_part why limits at_start start words armed next p q (Run plan) items new leads rest = inr (q, leads.1, rw leads.0 at rest)
then_in_part why limits at_start start words armed next p q Power items new leads rest = inr (q, leads.1, rw leads.0 at rest)

then_want : (at_start : State) (start : List ℕ) (words : ℕ) (armed next : Option CutPlan) (p q : Point) (item : Item) (items : List Item) (new : List Mark) → Leads at_start start words armed p item next q → LeadsToWant at_start start words next q items new → LeadsToWant at_start start words armed p (item ∷ items) new
then_want at_start start words armed next p q (Queue w call) items new leads rest = rw (leads.0, leads.1) at rest
then_want at_start start words armed next p q (Arm flush seed) items new leads rest = rw (leads.0, leads.1) at rest
then_want at_start start words armed next p q (Run plan) items new leads rest = inr (q, leads.1, rw leads.0 at rest)
then_want at_start start words armed next p q Power items new leads rest = (q, leads.1, rw leads.0 at rest)

here_wants : (at_start : State) (start : List ℕ) (words : ℕ) (armed : Option CutPlan) (p q : Point) (item : Item) (items : List Item) → LeadsToWantIn p item q → LeadsToWant at_start start words armed p (item ∷ items) q.past
here_wants at_start start words armed p q (Queue w call) items wants = absurd wants
here_wants at_start start words armed p q (Arm flush seed) items wants = absurd wants
here_wants at_start start words armed p q (Run plan) items wants = inl (q, wants, refl)
here_wants at_start start words armed p q Power items wants = absurd wants

here_in_part : (why : LimitKind) (limits : Limits) (at_start : State) (start : List ℕ) (words : ℕ) (armed : Option CutPlan) (p q : Point) (item : Item) (items : List Item) → LeadsInPart why limits at_start start words armed p item q → LeadsToInPart why limits at_start start words armed p (item ∷ items) q.past
here_in_part why limits at_start start words armed p q (Queue w call) items stops = absurd stops
here_in_part why limits at_start start words armed p q (Arm flush seed) items stops = absurd stops
here_in_part why limits at_start start words armed p q (Run plan) items stops = inl (q, stops.0, stops.1, refl)
here_in_part why limits at_start start words armed p q Power items stops = inl (q, stops.0, stops.1, refl)

module _ (items : List Item) (i : ℕ) (item : Item) (armed : Option CutPlan) (first : Point) (old world : WorldView) (queue : Queued) (s : Staged items i armed first old world queue) (lt : i < length items) (is : item ≡ get_or items i item) where
  -- an item more is done
  pub staged_more : (next : Option CutPlan) (new : WorldView) (left : Queued) → IsDoneItem armed world queue item next new left → Staged items (i + 1) next first old new left
  staged_more next new left d =
      let here = here_is items i item lt is in
      let order : AreInOrder (record { armed = is_some armed; used = s.used }) (item ∷ drop (i + 1) items) = subst (AreInOrder (record { armed = is_some armed; used = s.used })) here s.order in
      let leads : Leads old.at_start old.log.start (words_of old.config) armed (point_of world queue) item next (point_of new left) =
      subst (λ (at_start : State). Leads at_start old.log.start (words_of old.config) armed (point_of world queue) item next (point_of new left)) s.on.at_start
      (subst (λ (start : List ℕ). Leads world.at_start start (words_of old.config) armed (point_of world queue) item next (point_of new left)) s.on.start
      (subst (λ (c : Config). Leads world.at_start world.log.start (words_of c) armed (point_of world queue) item next (point_of new left)) s.on.config d.leads)) in
      record {
        on = record { config = d.stays.config ∙ s.on.config; at_start = d.stays.at_start ∙ s.on.at_start; start = d.stays.start ∙ s.on.start; limits = d.stays.limits ∙ s.on.limits };
        steady = d.steady;
        room = omega (arith, s.room, d.room);
        used = used_then s.used armed item;
        order = order_then _ _ _ armed next s.used _ _ item (drop (i + 1) items) leads order.1;
        powered = powered_then armed s.used world new item d.power s.powered;
        cut = d.cut;
        follows = λ marks rest. s.follows marks (rw here (then_leads _ _ _ armed next _ _ item (drop (i + 1) items) marks leads rest));
        in_part = λ why marks rest. s.in_part why marks (rw here (then_in_part why _ _ _ _ armed next _ _ item (drop (i + 1) items) marks leads rest));
        to_want = λ marks rest. s.to_want marks (rw here (then_want _ _ _ armed next _ _ item (drop (i + 1) items) marks leads rest));
      }

  -- it meets a limit
  pub staged_met : (why : LimitKind) (new : WorldView) → IsStoppedItem why armed world queue item new → IsLedFromInPart first old items why new
  staged_met why new d =
      let here = here_is items i item lt is in
      let leads : LeadsInPart why old.log.limits old.at_start old.log.start (words_of old.config) armed (point_of world queue) item d.at =
      subst (λ (at_start : State). LeadsInPart why old.log.limits at_start old.log.start (words_of old.config) armed (point_of world queue) item d.at) s.on.at_start
      (subst (λ (start : List ℕ). LeadsInPart why old.log.limits world.at_start start (words_of old.config) armed (point_of world queue) item d.at) s.on.start
      (subst (λ (c : Config). LeadsInPart why old.log.limits world.at_start world.log.start (words_of c) armed (point_of world queue) item d.at) s.on.config
      (subst (λ (limits : Limits). LeadsInPart why limits world.at_start world.log.start (words_of world.config) armed (point_of world queue) item d.at) s.on.limits d.leads))) in
      record {
        on = record { config = d.stays.config ∙ s.on.config; at_start = d.stays.at_start ∙ s.on.at_start; start = d.stays.start ∙ s.on.start; limits = d.stays.limits ∙ s.on.limits };
        follows = s.in_part why new.log.past (rw here (subst (LeadsToInPart why old.log.limits old.at_start old.log.start (words_of old.config) armed (point_of world queue) (item ∷ drop (i + 1) items)) d.past (here_in_part why _ _ _ _ armed _ d.at item (drop (i + 1) items) leads)));
      }

  -- memory is wanting for it
  pub staged_wants : (new : WorldView) → IsWantingItem world queue item new → IsLedFromToWant first old items new
  staged_wants new d =
      let here = here_is items i item lt is in
      record {
        on = record { config = d.stays.config ∙ s.on.config; at_start = d.stays.at_start ∙ s.on.at_start; start = d.stays.start ∙ s.on.start; limits = d.stays.limits ∙ s.on.limits };
        follows = s.to_want new.log.past (rw here (subst (LeadsToWant old.at_start old.log.start (words_of old.config) armed (point_of world queue) (item ∷ drop (i + 1) items)) d.past (here_wants _ _ _ armed _ d.at item (drop (i + 1) items) d.leads)));
      }

-- all items are done
pub staged_done : (items : List Item) (i : ℕ) (armed : Option CutPlan) (first : Point) (old world : WorldView) (queue : Queued) → Staged items i armed first old world queue → length items ≤ i → IsLedFrom first old items world
staged_done items i armed first old world queue s all =
    let none : drop i items ≡ [] = grind (arith, common_steps) in
    record { on = s.on; follows = s.follows world.log.past (rw none refl) }
