-- A call that makes its change, in the leaf that was looked into, or has it made anew.
use Rattle.std.proofs.Common.{◌≡◌, ◌≢◌, ℕ, ◌+◌, ◌<◌, ◌≤◌, true, false, List, arith, refl, sym, ap, subst, ◌∙◌, inl, inr, Option, Some, None, length}
use Rattle.std.specs.FinMap.{get}
use Rattle.std.specs.Prelude.{is_some}
use Rattle.bz_call.specs.Map.{key_of, Map, apply, apply_at, IsChange}
use Rattle.bz_call.specs.declared.calls.Call.{Call}
use Rattle.bz_call.specs.declared.calls.Call.TheVariants as call
use Rattle.bz_call.specs.declared.replies.Reply.{Reply}
use Rattle.bz_call.specs.declared.replies.Reply.TheVariants as reply
use Rattle.bz_content.specs.Content.{image_of, content_in, leaf_in, view_in}
use Rattle.bz_stage.specs.FromLeaves.Neighbours.{leaf_page}
use Rattle.bz_solo.specs.Errands.{is_read}
use Rattle.bz_solo.specs.FromAlone.Counts.{HasOthers}
use Rattle.bz_layout.specs.declared.sizes.TheConstants.{STATUS_AT}
use Rattle.bz_layout.specs.declared.thresholds.TheConstants.{CONSOLIDATION_SLOTS, SPLIT_ABOVE, SPLIT_SLOTS}
use Rattle.bz_mark.specs.Moments.{at_moment}
use Rattle.bz_page.specs.Laws.{IsSaidBy}
use Rattle.bz_record.specs.Laws.{IsViewed}
use Rattle.bz_record.specs.Records.{words_for, LacksRoom}
use Rattle.bz_any_task.specs.Duties.{config_of, asks_of, end_of, made_of, swaps_of, change_swaps, wants_of, change_of, facts_of, means_of, makes_no_change}
use Rattle.bz_any_task.specs.Hearing.{IsLookup}
use Rattle.bz_any_task.specs.Kinds as kinds
use Rattle.bz_any_task.specs.Kinds.{kind_of, Kind}
use Rattle.bz_any_task.specs.Laws.{AreLaws}
use Rattle.bz_any_task.specs.MadeFor.{IsMadeFor}
use Rattle.bz_any_task.specs.declared.running.AnyTask.{AnyTask}
use Rattle.bz_any_task.specs.declared.running.AnyTask.TheVariants.{Inserting, Updating, Deleting}
use Rattle.bz_slotted.specs.Page.{Page, page}
use Rattle.bz_slotted.specs.Readers.{live_of}
use Rattle.bz_slotted.specs.ReadingLaws.{node_of}
use Rattle.bz_slotted.specs.Records.{live_words}
use Rattle.bz_sound.specs.Calls.{map_at, map_after}
use Rattle.bz_sound.specs.Solitary.{IsSolitary, NoneIsOpenBesideASolitaryCall}
use Rattle.bz_sound.specs.Memory.ImageLaws.{IsChangeOf}
use Rattle.bz_sound.specs.Memory.Moments.{image_at, Decodes, map_at_start}
use Rattle.bz_sound.specs.Memory.Spent.{TakesSlots}
use Rattle.bz_sound.specs.Power.Growth.{LoadsAreSettled}
use Rattle.bz_refinement.specs.Laws.{ScenesAreSeen}
use Rattle.bz_task.specs.Good.{IsGood}
use Rattle.bz_task.specs.Instant.{durable}
use Rattle.bz_task.specs.Outcomes.{payload_of, IsView, IsKeyView, IsPath}
use Rattle.bz_task.specs.Scene.{Past, Scene, IsScene, Waiting}
use Rattle.bz_task.specs.Swaps.{Change}
use Rattle.bz_task.specs.declared.path.Path.{Path}
use Rattle.bz_task.specs.declared.todo.Outcome.TheVariants as outcomes
use Rattle.bz_task.specs.declared.todo.Outcome.TheVariants.{NeedsRoom}
use Rattle.bz_task.specs.declared.todo.Todo.TheVariants.{Finish}
use Rattle.bz_task.specs.declared.view.Found.{Found}
use Rattle.bz_task.specs.declared.view.KeyView.{KeyView}
use Rattle.bz_task.specs.declared.view.LeafView.{LeafView}
use Rattle.bz_word.specs.Statuses.{status}
use Rattle.bz_world.specs.Inside.Due.{IsDue}
use Rattle.bz_world.specs.Inside.Exact.{puts, reach_idle, seeks}
use Rattle.bz_world.specs.Inside.Going.{MustGoOn, MustAnswer, MustAnswerKey, MustChange, IsChangeKind, MayInsert, MayUpdate, known}
use Rattle.bz_world.specs.Inside.Meant.{IsOfSettled}
use Rattle.bz_world.specs.Inside.Laws.{UndisturbedLaws, AnswerLaws, HasEnd}
use Rattle.bz_world.specs.Inside.Room.{LacksRoomFor}
use Rattle.bz_world.specs.Inside.Paid.{stock_of}
use Rattle.bz_world.specs.Inside.Serving.{IsChangeFor, IsToldBy, NeedsAtLeast, effect_reply, tells_of}
use Rattle.bz_world.specs.Roomy.{swaps_told}
use Rattle.bz_world.specs.declared.parts.Parts.{Parts}
use Rattle.bz_world.proofs.Answering.{after-load, content-is}
use Rattle.bz_world.proofs.Due.{map-still}
use Rattle.bz_world.proofs.Exact.{none-ended}
use Rattle.bz_world.proofs.Exactly.{only-looked}
use Rattle.bz_world.proofs.Ready.{stage-none}
use Rattle.bz_world.proofs.Endings.{is_change, changes}
use Rattle.bz_world.proofs.Spared.{lacks-stage}
use Rattle.bz_world.proofs.TakingOn.{known-scene}
use Rattle.bz_world.proofs.StruckEnough.{delete-swaps}
use Rattle.std.proofs.lemmas.Bool.{true≢false}

abbrev quiet-by : (o : Option ℕ) → o ≡ None → is_some o ≡ false
quiet-by o e = ap is_some e

-- the key of the call
pub insert-key : (called : Call) (key payload : List ℕ) → MayInsert called key payload → key_of called ≡ key
insert-key called key payload (inl e) = ap key_of e
insert-key called key payload (inr e) = ap key_of e

pub update-key : (called : Call) (key payload : List ℕ) → MayUpdate called key payload → key_of called ≡ key
update-key called key payload (inl e) = ap key_of e
update-key called key payload (inr e) = ap key_of e

-- and none of them is a get
pub insert-no-get : (called : Call) (key payload other : List ℕ) → MayInsert called key payload → called ≡ call.Get other → ⊥
insert-no-get called key payload other (inl e) get = absurd (cc (e, get))
insert-no-get called key payload other (inr e) get = absurd (cc (e, get))

pub update-no-get : (called : Call) (key payload other : List ℕ) → MayUpdate called key payload → called ≡ call.Get other → ⊥
update-no-get called key payload other (inl e) get = absurd (cc (e, get))
update-no-get called key payload other (inr e) get = absurd (cc (e, get))

-- the changes that calls make
pub insert-changes : (called : Call) (key payload : List ℕ) (change : Change) → MayInsert called key payload → change ≡ record { key = key; old = None; new = Some payload } → IsChangeFor called None change
insert-changes called key payload change (inl e) is = subst (λ k. IsChangeFor k None change) (sym e) (subst (IsChangeFor (call.Insert key payload) None) (sym is) (record { key = refl; old = refl; is = refl }))
insert-changes called key payload change (inr e) is = subst (λ k. IsChangeFor k None change) (sym e) (subst (IsChangeFor (call.Upsert key payload) None) (sym is) (record { key = refl; old = refl; is = refl }))

pub update-changes : (called : Call) (key payload had : List ℕ) (change : Change) → MayUpdate called key payload → change ≡ record { key = key; old = Some had; new = Some payload } → IsChangeFor called (Some had) change
update-changes called key payload had change (inl e) is = subst (λ k. IsChangeFor k (Some had) change) (sym e) (subst (IsChangeFor (call.Update key payload) (Some had)) (sym is) (record { key = refl; old = refl; is = refl }))
update-changes called key payload had change (inr e) is = subst (λ k. IsChangeFor k (Some had) change) (sym e) (subst (IsChangeFor (call.Upsert key payload) (Some had)) (sym is) (record { key = refl; old = refl; is = refl }))

pub delete-changes : (called : Call) (key had : List ℕ) (change : Change) → called ≡ call.Delete key → change ≡ record { key = key; old = Some had; new = None } → IsChangeFor called (Some had) change
delete-changes called key had change e is = subst (λ k. IsChangeFor k (Some had) change) (sym e) (subst (IsChangeFor (call.Delete key) (Some had)) (sym is) (record { key = refl; old = refl; is = refl }))

module _ (scenes : ScenesAreSeen) (b : AnswerLaws) (p : Parts) (w : ℕ) (view : LeafView) (m : MustAnswer p w view) (key : List ℕ) (key-is : key_of m.on.serving.call ≡ key) where
  abbrev good-scene : IsScene (known p w m.on)
  good-scene = known-scene scenes p w m.on

  abbrev of-key : IsView key view (known p w m.on).past
  of-key = subst (λ k. IsView k view (known p w m.on).past) key-is m.viewed

  viewed : IsViewed key view (known p w m.on).past
  viewed = b.views key view (known p w m.on) good-scene of-key

  -- the view is of this life of the memory
  since : m.on.between.story.from ≤ view.at
  since = omega (arith, m.viewed.since, m.on.between.call_open.look.after_begin, m.on.between.living.begins w m.on.between.opened m.on.between.call_open.is_open)

  -- the status of the key's leaf was the one that was viewed
  status-is : durable p.config (m.on.between.story.at view.at) view.slot STATUS_AT ≡ view.status
  status-is =
      let g : IsGood p.config (m.on.between.story.at view.at) = m.on.between.living.history.good view.at since m.viewed.now in
      g.shown view.slot STATUS_AT (g.inside view.slot viewed.leaf.leaf.inside (λ e. absurd (omega (arith, e, viewed.leaf.leaf.slot)))) (inl (omega arith)) ∙ viewed.leaf.leaf.was

  leaf-is : leaf_page p.config (image_of (image_at p.journal.start view.at p.journal.past)) key ≡ page (durable p.config (m.on.between.story.at view.at) view.slot)
  leaf-is = ap (λ i. leaf_page p.config (image_of i) key) (sym (m.on.between.living.images view.at since m.viewed.now))
      ∙ ap (λ k. page (durable p.config (m.on.between.story.at view.at) k)) of-key.leaf

  said : IsSaidBy key view (known p w m.on).past
  said = b.said key view (known p w m.on).past of-key (m.on.between.living.history.good view.at since m.viewed.now)

  live-is : live_words (leaf_page p.config (image_of (image_at p.journal.start view.at p.journal.past)) key) ≡ live_of (node_of view.image.0)
  unfolding live_of
  live-is = ap live_words leaf-is ∙ sym said.live

  -- a frozen leaf has to be made anew, by a copy, a merge or a split
  needs-anew : (slots : ℕ) → TakesSlots p.config (image_at p.journal.start view.at p.journal.past) key slots → (status view.status).frozen ≡ true → NeedsAtLeast p.config p.journal.start p.journal.past m.on.between.opened slots
  needs-anew slots takes frozen = record {
    slots = slots;
    enough = omega arith;
    needs = record {
      moment = view.at;
      after_begin = omega (arith, m.viewed.since, m.on.between.call_open.look.after_begin);
      before_end = m.viewed.now;
      frozen = subst (λ k. (leaf_page p.config (image_of (image_at p.journal.start view.at p.journal.past)) k).frozen ≡ true) key-back (ap (λ (z : Page). z.frozen) leaf-is ∙ (ap (λ st. (status st).frozen) status-is ∙ frozen));
      needed = subst (λ k. TakesSlots p.config (image_at p.journal.start view.at p.journal.past) k slots) key-back takes;
    };
  }
    where
      key-back : key ≡ key_of m.on.between.opened.call
      key-back = sym key-is ∙ ap key_of (sym m.on.between.call_open.call)

  -- what was known at the moment of the view
  abbrev at-view : Past
  at-view = record (known p w m.on).past { since = view.at; now = view.at }

  -- so its copy is one of a leaf that was frozen
  pub copies-settled : (task : AnyTask) → (status view.status).frozen ≡ true → live_of (node_of view.image.0) ≤ SPLIT_ABOVE → ((q : Past) → IsView key view q → live_of (node_of view.image.0) ≤ SPLIT_ABOVE → IsMadeFor task key 0 q) → IsOfSettled task key (known p w m.on).past
  unfolding live_of
  copies-settled task frozen few made = record {
    slot = view.slot;
    was = record {
      moment = view.at;
      since = of-key.since;
      now = of-key.now;
      leaf = of-key.leaf;
      frozen = ap (λ k. (page (durable p.config (m.on.between.story.at view.at) k)).frozen) of-key.leaf ∙ (ap (λ st. (status st).frozen) status-is ∙ frozen);
      few = let same : live_words (leaf_page p.config (image_of (m.on.between.story.at view.at).image) key) ≡ live_of (node_of view.image.0) = ap (λ k. live_words (page (durable p.config (m.on.between.story.at view.at) k))) of-key.leaf ∙ sym said.live in omega (arith, same, few);
    };
    known = at-view;
    only = λ other is. let same : other.at ≡ view.at = omega (arith, is.since, is.now) in sym is.leaf ∙ (ap (λ (n : ℕ). leaf_in p.config (m.on.between.story.at n).image key) same ∙ of-key.leaf);
    made = made at-view (record { since = omega arith; now = omega arith; loads = of-key.loads; leaf = of-key.leaf; slot = of-key.slot; status = of-key.status; plain = of-key.plain; words = of-key.words; whole = of-key.whole }) few;
  }

  pub needs-copy : (status view.status).frozen ≡ true → live_of (node_of view.image.0) ≤ SPLIT_ABOVE → NeedsAtLeast p.config p.journal.start p.journal.past m.on.between.opened CONSOLIDATION_SLOTS
  needs-copy frozen few = needs-anew CONSOLIDATION_SLOTS (inr (inr (omega (arith, live-is, few), refl))) frozen

  pub needs-split : (status view.status).frozen ≡ true → SPLIT_ABOVE < live_of (node_of view.image.0) → NeedsAtLeast p.config p.journal.start p.journal.past m.on.between.opened SPLIT_SLOTS
  needs-split frozen many = needs-anew SPLIT_SLOTS (inl (omega (arith, live-is, many), refl)) frozen

-- a call that makes a change is none that reads
change-writes : (called : Call) (had new : Option (List ℕ)) → IsChangeOf called had new → is_read called ≡ false
change-writes (call.Insert key payload) had new e = refl
change-writes (call.Update key payload) had new e = refl
change-writes (call.Upsert key payload) had new e = refl
change-writes (call.Delete key) had new e = refl
change-writes (call.Get key) had new e = absurd e
change-writes (call.Page key) had new e = absurd e

-- a task of such a kind makes one
not-silent : (t : AnyTask) → is_change (kind_of t) ≡ true → makes_no_change t ≡ false
unfolding kind_of makes_no_change
not-silent (Inserting t) e = refl
not-silent (Updating t) e = refl
not-silent (Deleting t) e = refl
not-silent t e = absurd (cc e)

-- a leaf with this status has no room for it
pub insert-lacks : (called : Call) (key payload : List ℕ) (st : ℕ) → MayInsert called key payload → LacksRoom st (words_for key payload) → LacksRoomFor called st
insert-lacks called key payload st (inl e) l = subst (λ k. LacksRoomFor k st) (sym e) l
insert-lacks called key payload st (inr e) l = subst (λ k. LacksRoomFor k st) (sym e) l

pub update-lacks : (called : Call) (key payload : List ℕ) (st : ℕ) → MayUpdate called key payload → LacksRoom st (words_for key payload) → LacksRoomFor called st
update-lacks called key payload st (inl e) l = subst (λ k. LacksRoomFor k st) (sym e) l
update-lacks called key payload st (inr e) l = subst (λ k. LacksRoomFor k st) (sym e) l

-- where the map has this at its key, such a call changes it
changes-map : (called : Call) (had new : Option (List ℕ)) (map : Map) → IsChangeOf called had new → IsChange (apply_at had map called).reply
changes-map (call.Insert key payload) None new map is = tt
changes-map (call.Insert key payload) (Some had) new map is = absurd is
changes-map (call.Delete key) None new map is = absurd is
changes-map (call.Delete key) (Some had) new map is = tt
changes-map (call.Update key payload) None new map is = absurd is
changes-map (call.Update key payload) (Some had) new map is = tt
changes-map (call.Upsert key payload) None new map is = tt
changes-map (call.Upsert key payload) (Some had) new map is = tt
changes-map (call.Get key) None new map is = absurd is
changes-map (call.Get key) (Some had) new map is = absurd is
changes-map (call.Page from) None new map is = absurd is
changes-map (call.Page from) (Some had) new map is = absurd is

-- so a call whose key was looked up is to change the map, where it makes a change of what was found and no other call is open
module _ (settled : LoadsAreSettled) (alone : NoneIsOpenBesideASolitaryCall) (p : Parts) (w : ℕ) (view : KeyView) (m : MustAnswerKey p w view) (solitary : IsSolitary w p.journal.past) where
  abbrev map_then : Map
  map_then = map_at (map_at_start p.config p.journal.start) view.at p.journal.past

  viewed-since : m.on.between.story.from ≤ view.at
  viewed-since = omega (arith, m.viewed.since, m.on.between.call_open.look.after_begin, m.on.between.living.begins w m.on.between.opened m.on.between.call_open.is_open)

  gets-what-was-found : get map_then (key_of m.on.serving.call) ≡ payload_of view.found
  gets-what-was-found =
      let decodes : Decodes p.config p.journal.start (at_moment view.at p.journal.past) = settled p.config p.at_start p.journal w view.at m.on.between.sound m.viewed.now (after-load w view.at p.journal.past m.viewed.now m.viewed.loads) in
      sym (decodes.content (key_of m.on.serving.call)) ∙ (ap (λ i. content_in p.config i (key_of m.on.serving.call)) (sym (m.on.between.living.images view.at viewed-since m.viewed.now)) ∙ content-is p w view m m.on.serving.call refl view.found refl)

  still-so : map_then ≡ map_after (map_at_start p.config p.journal.start) p.journal.past
  still-so = map-still alone (map_at_start p.config p.journal.start) w view.at p.journal.past m.on.between.opened solitary m.on.between.call_open.is_open (m.on.between.call_open.effect ∙ m.quiet) (omega (arith, m.viewed.since, m.on.between.call_open.look.after_begin)) m.viewed.now

  pub change-due : (had new : Option (List ℕ)) → payload_of view.found ≡ had → IsChangeOf m.on.serving.call had new → IsDue p.config p.journal m.on.serving.call
  change-due had new found change = subst (λ (map : Map). IsChange (apply map m.on.serving.call).reply) still-so (subst (λ (o : Option (List ℕ)). IsChange (apply_at o map_then m.on.serving.call).reply) (sym (gets-what-was-found ∙ found)) (changes-map m.on.serving.call had new map_then change))

-- a task that was not begun yet has not ended
pub fresh-goes : (task : AnyTask) → AreLaws task → asks_of task ≡ None → end_of task ≡ None
fresh-goes task laws asks = none-ended (end_of task) (λ some. let both : None ≡ Some Finish = sym asks ∙ laws.only some in cc both)

-- what makes the change, by as many swaps as the reply will tell
pub record IsPutBy (task : AnyTask) (told : Reply) : Type 0 where
  pub kind : puts (kind_of task) ≡ true
  pub tells : change_swaps task ≡ swaps_told told
  pub few : swaps_of task ≤ change_swaps task

-- what makes a change looks nothing up
put-seeks : (k : Kind) → puts k ≡ true → seeks k ≡ true → ⊥
put-seeks kinds.Seek put seek = true≢false (sym put)
put-seeks kinds.Find put seek = true≢false (sym put)
put-seeks k put seek = true≢false (sym seek)

-- where one link leads to its leaf, which was looked up while no other call was open, the tree was a leaf when that look-up began
low-then : UndisturbedLaws → (p : Parts) (w : ℕ) {view : KeyView} (m : MustAnswerKey p w view) → IsSolitary w p.journal.past → (path : Path) → HasEnd path → m.on.serving.path ≡ Some path → path.depth ≤ 1 → (view_in p.config ((known p w m.on).past.at (known p w m.on).past.since).image).height ≡ 1
low-then b p w m solitary path last is few =
    let alone : HasOthers 0 0 (known p w m.on).past = (m.on.merges solitary).looking m.quiet (ap seeks m.kind) in
    let good : IsScene (known p w m.on) = known-scene b.scenes p w m.on in
    let way : IsPath (key_of m.on.serving.call) path (known p w m.on).past = m.leads path is in
    let still = b.rounds.stand (known p w m.on) (known p w m.on).past.since (known p w m.on).past.since (length p.journal.past) (key_of m.on.serving.call) good (record { since = omega arith; now = good.begun; effects = omega (arith, alone) })
    (record { from = omega arith; to = good.begun }) (record { from = good.begun; to = omega arith }) in
    sym still.height ∙ b.rounds.roots (key_of m.on.serving.call) path last.0 (known p w m.on) good (omega (arith, alone)) way last.1 (omega (arith, few, way.some))

-- a task that makes the call's change may be begun, where its key was looked up; it ends for want of room only where the leaf lacks that
pub must-change : UndisturbedLaws → NoneIsOpenBesideASolitaryCall → (p : Parts) (w : ℕ) (view : KeyView) (m : MustAnswerKey p w view) (key : List ℕ) → key_of m.on.serving.call ≡ key → (task : AnyTask) (had : Option (List ℕ)) → payload_of view.found ≡ had → config_of task ≡ p.config → AreLaws task → IsChangeFor m.on.serving.call had (change_of task)
    → ((way : Option Path) → IsLookup key way task) → asks_of task ≡ None → wants_of task ≡ 0 → 0 < change_swaps task → ((s : Scene) → s.past.config ≡ p.config → s.effected ≡ false → IsScene s → IsKeyView key view s.past → facts_of task Waiting s)
    → IsChangeKind (kind_of task) → made_of task ≡ 0 → ((s : Scene) → means_of task NeedsRoom s → LacksRoomFor m.on.serving.call view.status)
    → IsPutBy task (effect_reply m.on.serving.call had) → (kind_of task ≡ kinds.Delete → (path : Path) → m.on.serving.path ≡ Some path → HasEnd path) → MustChange p w had task
must-change b alone p w view m key key-is task had found config laws change lookup asks wants swaps facts kind made lacks put ends = record {
  reads = record { on = m.on; leads = m.leads; quiet = m.quiet; some = m.some; other = λ other get solitary. absurd (subst (λ called. IsChangeOf called had (change_of task).new) get change.is) };
  tasked = record { config = config; laws = laws; lookup = subst (λ k. IsLookup k m.on.serving.path task) (sym key-is) (lookup m.on.serving.path); change = inr change; wayless = λ none other. subst (λ k. IsLookup k other task) (sym key-is) (lookup other) };
  asks = asks;
  facts = facts (known p w m.on) refl (quiet-by m.on.between.opened.effect (m.on.between.call_open.effect ∙ m.quiet)) (known-scene b.scenes p w m.on) (subst (λ k. IsKeyView k view (known p w m.on).past) key-is m.viewed);
  wants = wants;
  changes = swaps;
  kind = kind;
  write = change-writes m.on.serving.call had (change_of task).new change.is;
  spares = m.spares;
  made = made;
  silent = not-silent task (changes (kind_of task) kind);
  lacks = λ z means none. lacks-stage m.on.serving.call view.status (known p w m.on) (b.rounds.key_stages (key_of m.on.serving.call) view (known p w m.on) (known-scene b.scenes p w m.on) none m.viewed) (lacks z means);
  due = λ solitary. change-due b.settled alone p w view m solitary had (change_of task).new found change.is;
  merges = λ solitary. record {
    looking = λ quiet seek. absurd (put-seeks (kind_of task) put.kind seek);
    deleting = λ quiet delete going. record {
      alone = let none : 0 ≡ made_of task + 0 = omega (arith, made) in subst (λ k. HasOthers 0 k (known p w m.on).past) none ((m.on.merges solitary).looking m.quiet (ap seeks m.kind));
      wants = wants;
      swaps = omega (arith, put.few, delete-swaps task delete);
      way = m.some;
      low = λ path is few. low-then b p w m solitary path (ends delete path is) is few;
    };
    merging = λ at is deletes. absurd (cc (m.quiet, is));
  };
  exact = λ solitary room. (
      let look = only-looked m.on.between.opened (known p w m.on).past (reach_idle p.access) (stock_of p) (tells_of m.on.serving) m.on.serving m.quiet (outcomes.Key view) m.ends.1 (λ e. e) (m.on.exact solitary room) in
      let goes : end_of task ≡ None = fresh-goes task laws asks in
      inr (inl (record {
        quiet = m.quiet;
        first = look.first;
        unpassed = m.on.fit.quiet m.quiet;
        kind = put.kind;
        wants = wants;
        tells_swaps = put.tells;
        same_left = look.same_left;
        alone = λ on. subst (λ k. HasOthers 0 k (known p w m.on).past) (let none : 0 ≡ made_of task + 0 = omega (arith, made) in none) look.alone;
        before = λ few. refl;
        least = λ on. omega (arith, look.same_taken, made);
        most = omega (arith, look.same_taken, put.few);
        short = λ full. absurd (cc (goes, full));
        ends = λ o is. absurd (cc (goes, is));
        roomy = λ z means. (
            let none = stage-none b.scenes b.rounds.stand p w m.on room look.first look.alone in
            let some = lacks-stage m.on.serving.call view.status (known p w m.on) (b.rounds.key_stages (key_of m.on.serving.call) view (known p w m.on) (known-scene b.scenes p w m.on) (omega (arith, look.alone)) m.viewed) (lacks z means) in
            omega (arith, none, some)
            );
      }))
      );
}

-- an insert by its two swaps, an update by as many, and a delete by one
pub insert-puts : (called : Call) (key payload : List ℕ) → MayInsert called key payload → effect_reply called None ≡ reply.Inserted
insert-puts called key payload (inl e) = ap (λ (k : Call). effect_reply k None) e
insert-puts called key payload (inr e) = ap (λ (k : Call). effect_reply k None) e

pub update-puts : (called : Call) (key payload had : List ℕ) → MayUpdate called key payload → effect_reply called (Some had) ≡ reply.Updated had
update-puts called key payload had (inl e) = ap (λ (k : Call). effect_reply k (Some had)) e
update-puts called key payload had (inr e) = ap (λ (k : Call). effect_reply k (Some had)) e

pub delete-puts : (called : Call) (key had : List ℕ) → called ≡ call.Delete key → effect_reply called (Some had) ≡ reply.Deleted had
delete-puts called key had e = ap (λ (k : Call). effect_reply k (Some had)) e

-- the call has told nothing yet
pub tells-nothing : (p : Parts) (w : ℕ) (on : MustGoOn p w) (had : Option (List ℕ)) → on.serving.effect ≡ None → IsToldBy p.config p.journal on.between.opened had
tells-nothing p w on had quiet at e = absurd (cc (e, on.between.call_open.effect, quiet))

-- where something was said of a key, it was found
pub some-found : (o : Option Found) (had : List ℕ) → payload_of o ≡ Some had → o ≢ None
some-found None had e none = absurd (cc)
some-found (Some found) had e none = absurd (cc)
