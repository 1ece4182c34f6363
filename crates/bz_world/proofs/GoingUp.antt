-- A call that gets a split on the way up from its leaf.
use Rattle.std.proofs.Common.{◌≡◌, ◌≢◌, ◌⊎◌, ℕ, ◌+◌, ◌-◌, ◌<◌, ◌≤◌, slice_get, true, false, List, arith, refl, sym, ap, subst, ◌∙◌, inl, inr, Some, None, is_some}
use Rattle.std.proofs.lemmas.Bool.{true≢false}
use Rattle.bz_solo.specs.FromAlone.Undisturbed.{IsUndisturbed}
use Rattle.bz_any_task.specs.FromAscent.Ascents.{IsAscent, IsOneUp}
use Rattle.bz_any_task.specs.FromAscent.Ascent.{Ascent}
use Rattle.bz_call.specs.Map.{key_of}
use Rattle.bz_call.specs.declared.calls.Call.{Call}
use Rattle.bz_solo.specs.FromCosts.Most.{IsWithinItsActs}
use Rattle.bz_solo.specs.Errands.{words_asked, is_read, may_swap_twice}
use Rattle.bz_solo.specs.Meant.{IsMeantFor}
use Rattle.bz_solo.specs.Prices.{coming}
use Rattle.bz_solo.specs.Renewals.{IsAbove}
use Rattle.bz_solo.specs.Rounds.{stage_now}
use Rattle.bz_solo.specs.Sum.{Spares, IsClean}
use Rattle.bz_any_task.specs.Duties.{ascent_of, wants_of, facts_of, makes_no_change, view_of, goes_on}
use Rattle.bz_any_task.specs.Ends.{IsEndOf}
use Rattle.bz_any_task.specs.GoingUp.{HasOneUp}
use Rattle.bz_any_task.specs.Kinds as kinds
use Rattle.bz_any_task.specs.Kinds.{begins_on, is_look, ascent_in, level_of, kind_of, kinds-tell-the-ascent, kinds-tell-what-goes-on}
use Rattle.bz_any_task.specs.Laws.{AreLaws}
use Rattle.bz_any_task.specs.MadeFor.{HasFoot, WasCrowded, IsMadeFor}
use Rattle.bz_any_task.specs.declared.running.AnyTask.{AnyTask}
use Rattle.bz_any_task.specs.declared.running.AnyTask.TheVariants.{Seeking, Finding, Reading, Inserting, Updating, Deleting, Freezing, Consolidating, Splitting, SplittingBelow, SplittingInner, SplittingInnerRoot, Merging, MergingInner, Lowering}
use Rattle.bz_stage.specs.Stages.{stage_in}
use Rattle.bz_task.specs.Scene.{Past, Scene, IsScene, Waiting}
use Rattle.bz_task.specs.declared.path.Path.{Path}
use Rattle.bz_task.specs.declared.todo.Outcome.TheVariants.{NeedsRoom}
use Rattle.bz_task.specs.declared.view.LeafView.{LeafView}
use Rattle.bz_world.specs.Inside.Going.{MustTakeOn, MustGoUp, HasEnded, MayGoUp, StandsBelow, known}
use Rattle.bz_world.specs.Inside.Laws.{UndisturbedLaws}
use Rattle.bz_world.specs.Inside.Solitary.{IsNotSolitary}
use Rattle.bz_world.specs.Inside.Meant.{IsMeant}
use Rattle.bz_world.specs.Inside.Paid.{bound_in, crowded, errand_of, no_extra, used_in, IsPaidFor, HasARoundAs, HasToSpare}
use Rattle.bz_world.specs.Inside.Serving.{NeedsAtLeast}
use Rattle.bz_world.specs.declared.parts.Parts.{Parts}
use Rattle.bz_world.proofs.Due.{looks-only}
use Rattle.bz_world.proofs.Exactly.{again-ended}
use Rattle.bz_world.proofs.SolitaryEnds.{other-ended}
use Rattle.bz_world.proofs.MakingAnew.{renewal-meant}
use Rattle.bz_world.proofs.Meant.{inner-not-meant, lower-not-meant, split-meant}
use Rattle.bz_world.proofs.Paid.{swaps-write, within-of}
use Rattle.bz_world.proofs.Spared.{most_in, most-kind, task-paid}
use Rattle.bz_world.proofs.TakingOn.{known-scene, lookup-taken, duly-other}
use Rattle.bz_world.specs.Inside.Exact.{seeks}

-- the split of the key's leaf, which has to be split, or of an inner node on the way up from it, where the node stands below another one
pub record IsOnTheWay (t : AnyTask) (key : List ℕ) (p : Past) : Type 0 where
  pub at : Ascent
  pub is : ascent_of t ≡ Some at
  pub from : ((kind_of t ≡ kinds.SplitLeaf at) × (at.place + 1 ≡ at.path.depth)) ⊎ (kind_of t ≡ kinds.SplitNode at)
  pub ascent : IsAscent at p
  pub below : 0 < at.place
  pub key_is : at.key ≡ key
  pub foot : HasFoot at
  pub view : LeafView
  pub leaf : WasCrowded key view p

-- what makes no change, and may end for want of room, is such a split, or a merge
pub lacks-room : (called : Call) (t : AnyTask) (s : Scene) → makes_no_change t ≡ true → IsEndOf (kind_of t) NeedsRoom → IsMeantFor called t s.past → facts_of t Waiting s → (kind_of t ≡ kinds.Merge) ⊎ IsOnTheWay t (key_of called) s.past
unfolding makes_no_change kind_of ascent_of wants_of view_of IsMadeFor
lacks-room called (Seeking t) s none ends meant f = absurd ends
lacks-room called (Finding t) s none ends meant f = absurd ends
lacks-room called (Reading t) s none ends meant f = absurd ends
lacks-room called (Inserting t) s none ends meant f = absurd (true≢false (sym none))
lacks-room called (Updating t) s none ends meant f = absurd (true≢false (sym none))
lacks-room called (Deleting t) s none ends meant f = absurd (true≢false (sym none))
lacks-room called (Freezing t) s none ends meant f = absurd ends
lacks-room called (Consolidating t) s none ends meant f = absurd ends
lacks-room called (Splitting t) s none ends meant f = absurd ends
lacks-room called (SplittingBelow t a) s none ends meant f =
    let m : IsMadeFor (SplittingBelow t a) (key_of called) (words_asked called) s.past = split-meant called (SplittingBelow t a) s.past refl meant in
    inr (record { at = a; is = refl; from = inl (refl, m.foot.last); ascent = f.1.0; below = m.foot.below; key_is = m.foot.key_is; foot = m.foot.foot; view = m.halves.view; leaf = m.halves.leaf })
lacks-room called (SplittingInner t a) s none ends meant f =
    let m : IsMadeFor (SplittingInner t a) (key_of called) (words_asked called) s.past = split-meant called (SplittingInner t a) s.past refl meant in
    inr (record { at = a; is = refl; from = inr refl; ascent = f.1.0; below = m.below; key_is = m.come.key_is; foot = m.come.foot; view = m.come.view; leaf = m.come.leaf })
lacks-room called (SplittingInnerRoot t a) s none ends meant f = absurd ends
lacks-room called (Merging t) s none ends meant f = inl refl
lacks-room called (MergingInner t) s none ends meant f = absurd (inner-not-meant called t s.past meant)
lacks-room called (Lowering t) s none ends meant f = absurd (lower-not-meant called t s.past meant)

-- the call is no solitary get, whose task ends by no want of room
pub crowded-other : (p : Parts) (w : ℕ) (e : HasEnded p w NeedsRoom) → IsNotSolitary p.journal.past w e.on.serving.call
crowded-other p w e = other-ended p w e.on NeedsRoom e.end (λ path is. cc is) (λ view is. cc is)

module _ (solo : UndisturbedLaws) (p : Parts) (w : ℕ) (e : HasEnded p w NeedsRoom) where
  abbrev here : Scene
  here = known p w e.on

  good : IsScene here
  good = known-scene solo.scenes p w e.on

  lacked : (kind_of e.on.serving.task ≡ kinds.Merge) ⊎ IsOnTheWay e.on.serving.task (key_of e.on.serving.call) here.past
  lacked = lacks-room e.on.serving.call e.on.serving.task here (e.silent refl) (e.tasked.laws.ends_of NeedsRoom here (e.tasked.laws.sound.ends here NeedsRoom e.facts e.end).0) (e.meant.meant e.quiet) e.facts

  -- the node above, to which its ascent goes on
  rises : (a up : Ascent) → ascent_of e.on.serving.task ≡ Some a → IsOneUp a up → IsAscent up here.past
  rises a up is one = e.tasked.laws.rises a up here is one (sym e.tasked.config) good e.facts e.end

  -- where that may not be split, another's swap took effect
  module _ (o : IsOnTheWay e.on.serving.task (key_of e.on.serving.call) here.past) (stands : StandsBelow e.on.serving.task) (none : MayGoUp e.on.serving.task → ⊥) where
    above : HasOneUp o.at
    above = stands o.at o.is o.below

    not-undisturbed : IsUndisturbed 0 here.past → ⊥
    not-undisturbed alone = none (record {
      from = o.at;
      up = above.up;
      begun = o.is;
      one = above.one;
      may = solo.rounds.up_due above.up here good alone (rises o.at above.up o.is above.one) (omega (arith, above.one.before, o.ascent.within, ap (λ (z : Path). z.depth) above.one.path_is));
    })

    not-clean : may_swap_twice (kind_of e.on.serving.task) ≡ false → IsClean (errand_of e.on.serving) e.on.serving.task 0 here.past → ⊥
    not-clean once clean = not-undisturbed (subst (λ n. IsUndisturbed n here.past) (clean.none once) clean.alone)

    again : may_swap_twice (kind_of e.on.serving.task) ≡ false → HasARoundAs p w (record (errand_of e.on.serving) { alone = false }) here.past
    again once r counted = (solo.rounds.rounds r).crowded p.access w (errand_of e.on.serving) e.on.serving.task (used_in r p w) (bound_in r p w) here.past (ap is_some e.quiet) e.end (not-clean once) (e.paid r counted)

    split-again : HasARoundAs p w (crowded (errand_of e.on.serving) (kind_of e.on.serving.task)) here.past
    split-again = elim o.from [
      | inl leaf ↦ subst (λ k. HasARoundAs p w (crowded (errand_of e.on.serving) k) here.past) (sym leaf.0) (again (ap may_swap_twice leaf.0))
      | inr node ↦ subst (λ k. HasARoundAs p w (crowded (errand_of e.on.serving) k) here.past) (sym node) (again (ap may_swap_twice node))
    ]

  -- so the key is looked up again, and after a merge its leaf is copied alone
  pub crowded-pays : StandsBelow e.on.serving.task → (MayGoUp e.on.serving.task → ⊥) → HasARoundAs p w (crowded (errand_of e.on.serving) (kind_of e.on.serving.task)) here.past
  crowded-pays stands none = elim lacked [
    | inl merge ↦ subst (λ k. HasARoundAs p w (crowded (errand_of e.on.serving) k) here.past) (sym merge)
        (λ r counted. (solo.rounds.rounds r).merge p.access w (errand_of e.on.serving) e.on.serving.task (used_in r p w) (bound_in r p w) here.past (ap is_some e.quiet) e.end merge (e.paid r counted))
    | inr o ↦ split-again o stands none
  ]

-- the split of the node above
module _ (solo : UndisturbedLaws) (p : Parts) (w : ℕ) (task : AnyTask) (m : MustGoUp p w task) where
  abbrev now : Past
  now = (known p w m.ends.on).past

  -- the one that lacked the room is none that merges
  rising : IsOnTheWay m.ends.on.serving.task (key_of m.ends.on.serving.call) now
  rising = elim (lacked solo p w m.ends) [
    | inl merge ↦ absurd (let none : None ≡ Some m.up.above.from = sym (kinds-tell-the-ascent m.ends.on.serving.task ∙ ap ascent_in merge) ∙ m.up.above.begun in cc none)
    | inr o ↦ o
  ]

  from-is : m.up.above.from ≡ rising.at
  from-is = let both : Some m.up.above.from ≡ Some rising.at = sym m.up.above.begun ∙ rising.is in cc both

  one : IsOneUp rising.at m.up.above.up
  one = subst (λ a. IsOneUp a m.up.above.up) from-is m.up.above.one

  is-above : IsAbove m.ends.on.serving.task task rising.at m.up.above.up
  is-above = record {
    one = one;
    low = rising.ascent.within;
    few = rising.ascent.path.few;
    from = rising.from;
    to = elim m.up.above.kind [
      | inl node ↦ inl node
      | inr root ↦ inr root.0
    ];
  }

  pub no-merge-before : kind_of m.ends.on.serving.task ≢ kinds.Merge
  no-merge-before merge = elim rising.from [
    | inl leaf ↦ absurd (let both : kinds.Merge ≡ kinds.SplitLeaf rising.at = sym merge ∙ leaf.0 in cc both)
    | inr node ↦ absurd (let both : kinds.Merge ≡ kinds.SplitNode rising.at = sym merge ∙ node in cc both)
  ]

  -- which is no look-up
  pub no-look : is_look (kind_of m.ends.on.serving.task) ≡ true → ⊥
  no-look look = elim rising.from [
    | inl leaf ↦ true≢false (sym look ∙ ap is_look leaf.0)
    | inr node ↦ true≢false (sym look ∙ ap is_look node)
  ]

  write : is_read m.ends.on.serving.call ≡ false
  write = swaps-write m.ends.on.serving.call (kind_of m.ends.on.serving.task) (m.ends.meant.look m.ends.quiet) no-look

  -- the stage is above the level of that node
  key-up : m.up.above.up.key ≡ key_of m.ends.on.serving.call
  key-up = one.key_is ∙ rising.key_is

  last-up : slice_get m.up.above.up.path.links (m.up.above.up.path.depth - 1) ≡ Some rising.foot.last
  last-up = subst (λ (z : Path). slice_get z.links (z.depth - 1) ≡ Some rising.foot.last) (sym one.path_is) rising.foot.is

  below-stage : IsUndisturbed 0 now → level_of m.up.above.up + 1 ≤ stage_now (errand_of m.ends.on.serving) now
  below-stage alone = subst (λ k. level_of m.up.above.up + 1 ≤ stage_in now.config (now.at now.now).image k (words_asked m.ends.on.serving.call)) key-up
      (solo.rounds.below m.up.above.up rising.foot.last rising.view (words_asked m.ends.on.serving.call) (known p w m.ends.on) (known-scene solo.scenes p w m.ends.on) alone
      (rises solo p w m.ends m.up.above.from m.up.above.up m.up.above.begun m.up.above.one) last-up (subst (λ k. WasCrowded k rising.view now) (sym key-up) rising.leaf))

  up-spares : HasToSpare p w m.ends.on.serving now (λ r q. most_in r (kind_of task) + coming r q (errand_of m.ends.on.serving) (kind_of task))
  up-spares r counted = subst (λ n. Spares r p.access w (errand_of m.ends.on.serving) (used_in r p w) (bound_in r p w) now (λ q. n + coming r q (errand_of m.ends.on.serving) (kind_of task))) (most-kind r task)
      (solo.rounds.ascents r p.access w (errand_of m.ends.on.serving) m.ends.on.serving.task task rising.at m.up.above.up (used_in r p w) (bound_in r p w) now (ap is_some m.ends.quiet) write is-above m.ends.end below-stage (m.ends.paid r counted))

  -- which is no split of a leaf, nor a merge
  up-within : IsWithinItsActs task
  up-within = within-of task (λ a leaf. elim m.up.above.kind [
    | inl node ↦ absurd (let both : kinds.SplitLeaf a ≡ kinds.SplitNode m.up.above.up = sym leaf ∙ node.0 in cc both)
    | inr root ↦ absurd (let both : kinds.SplitLeaf a ≡ kinds.SplitRootNode m.up.above.up = sym leaf ∙ root.0 in cc both)
  ])

  no-merge : kind_of task ≢ kinds.Merge
  no-merge merge = elim m.up.above.kind [
    | inl node ↦ absurd (let both : kinds.Merge ≡ kinds.SplitNode m.up.above.up = sym merge ∙ node.0 in cc both)
    | inr root ↦ absurd (let both : kinds.Merge ≡ kinds.SplitRootNode m.up.above.up = sym merge ∙ root.0 in cc both)
  ]

  no-copy : kind_of task ≢ kinds.Copy
  no-copy copy = elim m.up.above.kind [
    | inl node ↦ absurd (let both : kinds.Copy ≡ kinds.SplitNode m.up.above.up = sym copy ∙ node.0 in cc both)
    | inr root ↦ absurd (let both : kinds.Copy ≡ kinds.SplitRootNode m.up.above.up = sym copy ∙ root.0 in cc both)
  ]

  pub no-seek : seeks (kind_of task) ≡ true → ⊥
  no-seek seek = elim m.up.above.kind [
    | inl node ↦ true≢false (sym seek ∙ ap seeks node.0)
    | inr root ↦ true≢false (sym seek ∙ ap seeks root.0)
  ]

  pub no-delete : kind_of task ≡ kinds.Delete → ⊥
  no-delete delete = elim m.up.above.kind [
    | inl node ↦ cc (delete, node.0)
    | inr root ↦ cc (delete, root.0)
  ]

  pub begins-up : goes_on task ≡ true
  begins-up = elim m.up.above.kind [ inl node ↦ kinds-tell-what-goes-on task (ap begins_on node.0) | inr root ↦ kinds-tell-what-goes-on task (ap begins_on root.0) ]

  pub up-meant : IsMeant (record m.ends.on.serving { task = task; path = None }) now
  up-meant = renewal-meant p w m.ends.on m.ends.quiet write task up-within no-merge (λ copy. absurd (no-copy copy))
      (inr (inr (m.up.made_for (key_of m.ends.on.serving.call) (words_asked m.ends.on.serving.call) now (split-meant m.ends.on.serving.call m.ends.on.serving.task now m.up.wanted (m.ends.meant.meant m.ends.quiet)))))

  pub up-paid : AreLaws task → IsPaidFor p w (record m.ends.on.serving { task = task; path = None }) 0 no_extra now
  up-paid laws = task-paid solo.rounds p w m.ends.on task None m.ends.on.serving.had (kind_of task) refl laws m.up.asks m.up.made up-meant (λ quiet merge. absurd (no-merge merge)) up-spares

  abbrev pub up-taken : AreLaws task → MustTakeOn p w task None m.ends.on.serving.had None
  up-taken laws =
      lookup-taken p w m.ends.on (inl m.ends.quiet) task None None (key_of m.ends.on.serving.call) (m.up.config ∙ m.ends.tasked.config) laws m.up.silent (m.up.ends (key_of m.ends.on.serving.call) m.ends.on.serving.path None m.ends.tasked.lookup) (λ none other. m.up.ends (key_of m.ends.on.serving.call) m.ends.on.serving.path other m.ends.tasked.lookup) refl m.up.asks
      (m.up.facts (known p w m.ends.on) (sym m.ends.tasked.config) (known-scene solo.scenes p w m.ends.on) m.ends.facts m.ends.end)
      (λ quiet some other. subst (NeedsAtLeast p.config p.journal.start p.journal.past m.ends.on.between.opened) (m.up.wanted ∙ sym m.up.wants) (m.ends.on.between.call_open.wanted quiet (omega (arith, m.up.wanted)) no-merge-before))
      (λ key get solitary. absurd (crowded-other p w m.ends key get solitary)) up-meant (up-paid laws)
      (λ quiet solitary. elim (m.ends.on.between.due quiet solitary) [
        | inl due ↦ inl due
        | inr none ↦ absurd (no-look (looks-only m.ends.on.serving.call (kind_of m.ends.on.serving.task) none.looks))
      ])
      (λ solitary room. absurd (again-ended p w m.ends.on m.ends.quiet NeedsRoom m.ends.end (m.ends.tasked.laws.ends_of NeedsRoom (known p w m.ends.on) (m.ends.tasked.laws.sound.ends (known p w m.ends.on) NeedsRoom m.ends.facts m.ends.end).0) (λ e. e) (λ e. e) solitary room))
      (duly-other p w m.ends.on task None m.ends.quiet no-seek no-delete)
