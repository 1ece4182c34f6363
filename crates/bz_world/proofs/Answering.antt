-- A call whose leaf was read, or whose key was looked up there, is answered as of the view's moment.
use Rattle.std.proofs.Common.{◌≡◌, ℕ, zero, suc, ◌*◌, ◌<◌, ◌≤◌, ◌&&◌, if◌then◌else◌, ◌==◌, true, false, List, ◌∷◌, length, arith, refl, sym, ap, subst, ◌∙◌, Option, Some, None}
use Rattle.std.proofs.lemmas.Bool.{true≢false}
use Rattle.std.proofs.lemmas.Bool.Decides.{nat_tests}
use Rattle.bz_solo.specs.FromAlone.Reads.{get_reads}
use Rattle.bz_call.specs.Map.{key_of}
use Rattle.bz_call.specs.Pages.{is_from, is_page}
use Rattle.bz_call.specs.declared.calls.Call.{Call}
use Rattle.bz_call.specs.declared.calls.Call.TheVariants as call
use Rattle.bz_call.specs.declared.replies.Reply.TheVariants.{Exists, Missing, Value}
use Rattle.bz_content.specs.Content.{content_in, leaf_end_in, view_in}
use Rattle.bz_solo.specs.Prices.{coming}
use Rattle.bz_mark.specs.Moments.{at_moment, mark_at}
use Rattle.bz_mark.proofs.MomentLaws.{at_moment-next}
use Rattle.bz_mark.specs.declared.marks.Mark.{Mark}
use Rattle.bz_mark.specs.declared.marks.Mark.TheVariants.{Begin, End, Load, Store, Cas, Ask, Fence, Evict, Cut, On, Ready, Effect}
use Rattle.bz_page.specs.Pages.{IsPageOf}
use Rattle.bz_any_task.specs.Kinds as kinds
use Rattle.bz_tree.specs.Order as order
use Rattle.bz_slotted.specs.Readers.{found_of}
use Rattle.bz_sound.specs.Solitary.{acts_since}
use Rattle.bz_sound.specs.Memory.ImageLaws.{ReadsAt, ImageAnswersBy}
use Rattle.bz_sound.specs.Memory.Moments.{image_at, IsAfterLoad}
use Rattle.bz_sound.specs.Memory.Replies.{ends_after}
use Rattle.bz_sound.specs.Power.Spent.{IsSpent}
use Rattle.bz_refinement.specs.Story.{is_load_of, loaded}
use Rattle.bz_task.specs.Good.{IsGood}
use Rattle.bz_task.specs.Instant.{durable}
use Rattle.bz_task.specs.Outcomes.{payload_of, IsView, IsKeyView}
use Rattle.bz_task.specs.Scene.{Past}
use Rattle.bz_task.specs.declared.view.Found.{Found}
use Rattle.bz_task.specs.declared.view.KeyView.{KeyView}
use Rattle.bz_task.specs.declared.view.LeafView.{LeafView}
use Rattle.bz_world.specs.Inside.Acted.{IsBetween}
use Rattle.bz_world.specs.Inside.Going.{MustGoOn, MustAnswer, MustAnswerKey, MustEnd, MustEndPage, HasRoomForEnd, known}
use Rattle.bz_world.specs.Inside.Laws.{AnswerLaws}
use Rattle.bz_world.specs.Inside.Solitary.{WhereSolitary}
use Rattle.bz_world.specs.Inside.Paid.{errand_of}
use Rattle.bz_world.specs.declared.parts.Parts.{Parts}
use Rattle.bz_world.specs.declared.serving.OpenCall.{OpenCall}
use Rattle.bz_world.proofs.Spared.{spared-room}
use Rattle.bz_world.proofs.Tabled.{tabled-beside}

-- the page that is put together is nothing to the world
abbrev pub between-pages : (p : Parts) (w : ℕ) (x : OpenCall) (pairs : List (List ℕ × List ℕ)) → IsBetween p w x → IsBetween (record p { page = pairs }) w x
between-pages p w x pairs b = record {
  on = b.on;
  story = b.story;
  tabled = tabled-beside (record { workers = refl; owners = refl; crew = refl; steps = refl; rest = refl }) b.tabled;
  taken = let t = b.taken in record { shown = t.shown; held = t.held; few = t.few; notes = t.notes; unused = t.unused; only = t.only; unstored = t.unstored };
  living = b.living;
  sound = b.sound;
  leaves = b.leaves;
  free = b.free;
  others = b.others;
  worker = b.worker;
  within = b.within;
  opened = b.opened;
  call_open = b.call_open;
  idle = b.idle;
  due = b.due;
  steps = b.steps;
}

abbrev pub on-pages : (p : Parts) (w : ℕ) (pairs : List (List ℕ × List ℕ)) → MustGoOn p w → MustGoOn (record p { page = pairs }) w
on-pages p w pairs on = record {
  serving = on.serving;
  is = on.is;
  between = between-pages p w on.serving pairs on.between;
  filled = on.filled;
  fit = let f = on.fit in record { words = f.words; thawed = f.thawed; quiet = f.quiet };
  exact = on.exact;
  merges = on.merges;
  solitary = λ key get solitary. let h = on.solitary key get solitary in record { get = let g = h.get in record { brief = g.brief; looks = g.looks; alone = g.alone; quiet = g.quiet; thawed = g.thawed }; stands = h.stands };
}

-- the mark of a load, and the moment directly after it
load-by : (w : ℕ) (mark : Option Mark) (past : List Mark) → is_load_of w mark ≡ true → (one : Mark) → mark ≡ Some one → IsAfterLoad w (one ∷ past)
load-by w (Some (Load v a x)) past is one e = subst (λ z. IsAfterLoad w (z ∷ past)) (let same : Load v a x ≡ one = cc e in same) (let same : v ≡ w = grind (arith, nat_tests) in same)
load-by w (Some (Begin v n c)) past is one e = absurd (true≢false (sym is))
load-by w (Some (End v n r at)) past is one e = absurd (true≢false (sym is))
load-by w (Some (Store v a x)) past is one e = absurd (true≢false (sym is))
load-by w (Some (Cas v a old new found)) past is one e = absurd (true≢false (sym is))
load-by w (Some (Ask v line)) past is one e = absurd (true≢false (sym is))
load-by w (Some (Fence v)) past is one e = absurd (true≢false (sym is))
load-by w (Some (Evict a)) past is one e = absurd (true≢false (sym is))
load-by w (Some Cut) past is one e = absurd (true≢false (sym is))
load-by w (Some On) past is one e = absurd (true≢false (sym is))
load-by w (Some Ready) past is one e = absurd (true≢false (sym is))
load-by w (Some (Effect v n)) past is one e = absurd (true≢false (sym is))
load-by w None past is one e = absurd (true≢false (sym is))

after-by : (w m : ℕ) (past : List Mark) → m < length past → (mark : Option Mark) → mark_at m past ≡ mark → is_load_of w mark ≡ true → IsAfterLoad w (at_moment (suc m) past)
after-by w m past l None e is = absurd (true≢false (sym is))
after-by w m past l (Some mark) e is =
    let next : at_moment (suc m) past ≡ mark ∷ at_moment m past = ap (λ k. at_moment k past) (omega arith) ∙ at_moment-next m mark past e l in
    subst (IsAfterLoad w) (sym next) (load-by w (Some mark) (at_moment m past) is mark refl)

pub after-load : (w m : ℕ) (past : List Mark) → m ≤ length past → loaded past w m ≡ true → IsAfterLoad w (at_moment m past)
after-load w zero past l is = absurd (true≢false (sym is))
after-load w (suc m) past l is = after-by w m past (omega (arith, l)) (mark_at m past) refl is

-- both say the same of a key and an end
same-below : (end : Option (List ℕ)) (key : List ℕ) → order.is_below key end ≡ ends_after end key
unfolding order.is_before
same-below None key = refl
same-below (Some next) key = refl

-- a moment directly after a load of the worker's own, since its look-up began, of a call which had no effect; a mark is left for its end
pub record IsLooking (p : Parts) (w at : ℕ) (on : MustGoOn p w) : Type 0 where
  pub since : (known p w on).past.since ≤ at
  pub now : at ≤ (known p w on).past.now
  pub loads : (known p w on).past.loads at ≡ true
  pub quiet : on.serving.effect ≡ None
  pub room : HasRoomForEnd p w

-- that of a view of a leaf, and of a key
abbrev pub looking-leaf : (p : Parts) (w : ℕ) (view : LeafView) (m : MustAnswer p w view) → IsLooking p w view.at m.on
looking-leaf p w view m = record { since = m.viewed.since; now = m.viewed.now; loads = m.viewed.loads; quiet = m.quiet; room = spared-room p w m.on.serving (known p w m.on).past (λ r q. coming r q (errand_of m.on.serving) kinds.ReadWhole) m.spares }

abbrev pub looking-key : (p : Parts) (w : ℕ) (view : KeyView) (m : MustAnswerKey p w view) → IsLooking p w view.at m.on
looking-key p w view m = record { since = m.viewed.since; now = m.viewed.now; loads = m.viewed.loads; quiet = m.quiet; room = spared-room p w m.on.serving (known p w m.on).past (λ r q. coming r q (errand_of m.on.serving) kinds.Find) m.spares }

module _ (b : AnswerLaws) (p : Parts) (w at : ℕ) (on : MustGoOn p w) (l : IsLooking p w at on) (called : Call) (is : on.serving.call ≡ called) where
  abbrev was : IsBetween p w on.serving
  was = on.between

  abbrev pub past : Past
  past = (known p w on).past

  pub opened-is : was.opened.call ≡ called
  opened-is = was.call_open.call ∙ is

  -- the moment is of this life of the memory
  since : was.story.from ≤ at
  since = omega (arith, l.since, was.call_open.look.after_begin, was.living.begins w was.opened was.call_open.is_open)

  pub good : IsGood p.config (past.at at)
  good = was.living.history.good at since l.now

  pub image-is : (past.at at).image ≡ image_at p.journal.start at p.journal.past
  image-is = was.living.images at since l.now

  pub reads : ReadsAt p.journal.past w was.opened at
  reads = record {
    is_open = was.call_open.is_open;
    quiet = was.call_open.effect ∙ l.quiet;
    after_begin = omega (arith, l.since, was.call_open.look.after_begin);
    before_end = l.now;
    loaded = after-load w at p.journal.past l.now l.loads;
  }

  answers : ImageAnswersBy (IsSpent p.config p.journal.start p.journal.past w was.opened) p.config p.journal w was.opened at
  answers = b.answers p.config p.at_start p.journal w at was.opened was.sound reads

  -- what is due where it is a solitary get
  abbrev pub IsFew : Type 0
  IsFew = WhereSolitary p.journal.past w on.serving.call (λ key. acts_since w p.journal.past ≤ 2 * get_reads p.config (image_at p.journal.start at p.journal.past) key)

  pub value-right : IsFew → (key had : List ℕ) → called ≡ call.Get key → content_in p.config (past.at at).image key ≡ Some had → MustEnd p w (Value had) at
  value-right few key had e has = record { on = on; merged = tt; right = answers.value key had (opened-is ∙ e) (ap (λ i. content_in p.config i key) (sym image-is) ∙ has); full = λ spent e. absurd (cc e); told = λ solitary room. tt; room = l.room; brief = few }

  pub missing-right : IsFew → (key : List ℕ) → called ≡ call.Get key → content_in p.config (past.at at).image key ≡ None → MustEnd p w Missing at
  missing-right few key e has = record { on = on; merged = tt; right = answers.no_value key (opened-is ∙ e) (ap (λ i. content_in p.config i key) (sym image-is) ∙ has); full = λ spent e. absurd (cc e); told = λ solitary room. tt; room = l.room; brief = few }

  pub exists-right : (key payload had : List ℕ) → called ≡ call.Insert key payload → content_in p.config (past.at at).image key ≡ Some had → MustEnd p w Exists at
  exists-right key payload had e has = record { on = on; merged = tt; right = answers.exists key payload had (opened-is ∙ e) (ap (λ i. content_in p.config i key) (sym image-is) ∙ has); full = λ spent e. absurd (cc e); told = λ solitary room. tt; room = l.room; brief = λ other get solitary. absurd (cc (is, e, get)) }

  pub no-delete-right : (key : List ℕ) → called ≡ call.Delete key → content_in p.config (past.at at).image key ≡ None → MustEnd p w Missing at
  no-delete-right key e has = record { on = on; merged = tt; right = answers.no_delete key (opened-is ∙ e) (ap (λ i. content_in p.config i key) (sym image-is) ∙ has); full = λ spent e. absurd (cc e); told = λ solitary room. tt; room = l.room; brief = λ other get solitary. absurd (cc (is, e, get)) }

  pub no-update-right : (key payload : List ℕ) → called ≡ call.Update key payload → content_in p.config (past.at at).image key ≡ None → MustEnd p w Missing at
  no-update-right key payload e has = record { on = on; merged = tt; right = answers.no_update key payload (opened-is ∙ e) (ap (λ i. content_in p.config i key) (sym image-is) ∙ has); full = λ spent e. absurd (cc e); told = λ solitary room. tt; room = l.room; brief = λ other get solitary. absurd (cc (is, e, get)) }

  pub page-right : (from : List ℕ) (next : Option (List ℕ)) (pairs : List (List ℕ × List ℕ)) → called ≡ call.Page from → IsPageOf p.config (past.at at).image from pairs next → MustEndPage (record p { page = pairs }) w next at
  page-right from next pairs e page = record {
    on = on-pages p w pairs on;
    asks = ap is_page (is ∙ e);
    room = l.room;
    right = b.pages p.config p.at_start p.journal w at was.opened from next pairs was.sound reads (opened-is ∙ e) (record {
      leaf_end = page.next ∙ ap (λ i. leaf_end_in p.config i from) image-is;
      rises = page.rises;
      finds = λ key. page.finds key ∙ (ap (λ z. if is_from from key && z then content_in p.config (past.at at).image key else None) (same-below next key)
          ∙ ap (λ i. if is_from from key && ends_after next key then content_in p.config i key else None) image-is);
    });
  }

-- the leaf that was read is the one of the call's key
pub views : (p : Parts) (w : ℕ) (view : LeafView) (m : MustAnswer p w view) (called : Call) → m.on.serving.call ≡ called → IsView (key_of called) view (known p w m.on).past
views p w view m called is = subst (λ k. IsView (key_of k) view (known p w m.on).past) is m.viewed

-- what was found of a key is what the image has
key-content : (key : List ℕ) (view : KeyView) (p : Past) → IsKeyView key view p → content_in p.config (p.at view.at).image key ≡ payload_of view.found
key-content key view p v =
    let below : (view.slot == p.config.nodes) ≡ false = grind (arith, nat_tests, v.slot) in
    let here : content_in p.config (p.at view.at).image key ≡ (if view.slot == p.config.nodes then None else found_of (durable p.config (p.at view.at) view.slot) key) = ap (λ k. (view_in p.config (p.at view.at).image).found k key) v.leaf in
    rw below at here ∙ v.says

pub content-is : (p : Parts) (w : ℕ) (view : KeyView) (m : MustAnswerKey p w view) (called : Call) → m.on.serving.call ≡ called → (found : Option Found) → view.found ≡ found → content_in p.config ((known p w m.on).past.at view.at).image (key_of called) ≡ payload_of found
content-is p w view m called is found e = key-content (key_of called) view (known p w m.on).past (subst (λ k. IsKeyView (key_of k) view (known p w m.on).past) is m.viewed) ∙ ap payload_of e
