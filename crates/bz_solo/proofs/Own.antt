-- A step at which the worker's own swap takes effect is paid for, and what comes after it: by the round, and by what the swap is.
use Rattle.std.proofs.Common.{◌≡◌, ◌⊎◌, ℕ, ◌+◌, ◌*◌, ◌<◌, ◌≤◌, Bool, true, false, List, Some, arith, refl, sym, ap, subst, ◌∙◌, inl, inr, if◌then◌else◌}
use Rattle.std.specs.Prelude.{None}
use Rattle.std.proofs.lemmas.Bool.{cases_lt}
use Rattle.bz_joined.specs.FromAlone.Undisturbed.{IsUndisturbed}
use Rattle.bz_joined.specs.FromAlone.Tasks.{UndisturbedTasksGoOn}
use Rattle.bz_call.specs.Map.{key_of}
use Rattle.bz_content.specs.Content.{image_of}
use Rattle.bz_joined.specs.FromStage.Neighbours.{leaf_page}
use Rattle.bz_costs.specs.Solo.{one_mark}
use Rattle.bz_costs.specs.Resources.{Resource, Marks, Descriptors, Slots}
use Rattle.bz_costs.specs.Weights.{weigh}
use Rattle.bz_costs.specs.Laws.{AskedSwapsAreCounted}
use Rattle.bz_costs.specs.Stretches.{solo_stretch}
use Rattle.bz_joined.specs.Undisturbed.{UndisturbedFreezesFreezeTheLeaf}
use Rattle.bz_layout.specs.declared.thresholds.TheConstants.{LEAF_RECORD_WORDS}
use Rattle.bz_rivals.specs.Rivals.{rivals}
use Rattle.bz_joined.specs.FromRounds.Left.{UndisturbedSwapsLeave}
use Rattle.bz_joined.specs.FromRounds.Undisturbed.{IsUndisturbedSwap}
use Rattle.bz_costs.specs.FromRunning.Duties.{config_of, end_of, made_of, facts_of, asks_of, swaps_of, change_swaps, publishing_of, makes_no_change}
use Rattle.bz_costs.specs.FromRunning.Kinds as kinds
use Rattle.bz_costs.specs.FromRunning.Kinds.{kind_of, is_look}
use Rattle.bz_costs.specs.FromRunning.MadeFor.{IsMadeFor, IsMergeFor}
use Rattle.bz_costs.specs.FromRunning.AnyTask.{AnyTask}
use Rattle.bz_slotted.specs.Page.{Page}
use Rattle.bz_joined.specs.FromStage.Rooms.{is_crowded}
use Rattle.bz_swap.specs.SwapMemory.{SwapMemory}
use Rattle.bz_task.specs.Instant.{Instant}
use Rattle.bz_task.specs.Requests.{swaps_in}
use Rattle.bz_task.specs.Scene.{Past, Scene, here}
use Rattle.bz_task.specs.Swaps.{Stand}
use Rattle.bz_task.specs.declared.todo.Outcome.TheVariants.{Done}
use Rattle.bz_word.specs.declared.entry.Entry.{Entry}
use Rattle.bz_solo.specs.Errands.{Errand, words_asked, is_read, may_swap_twice, after}
use Rattle.bz_solo.specs.Meant.{TakesNone, IsMeantFor}
use Rattle.bz_solo.specs.Prices.{disturbed_prices, prices_in, coming, coming_to_write, coming_after, round_price}
use Rattle.bz_solo.specs.Steps.{OwnEffectsArePaid, IsOwnEffect, IsServing, IsNext, HasStepped, effected_by, mark_of_effect}
use Rattle.bz_solo.specs.Sum.{State, In, Disturbed, Clean, Made, IsIn, IsSmall, IsClean, IsMade, IsPaid, Affords, Round, prices_of, own_by, own_left, left_in}
use Rattle.bz_solo.proofs.OwnKinds as own_kinds
use Rattle.bz_solo.proofs.OwnLeft.{has-foot, leaf-frozen, left-price, roomy}
use Rattle.bz_solo.proofs.OwnMerges.{IsBeside, IsJoining, IsMerging, merging}
use Rattle.bz_solo.proofs.OwnPrices as own_prices
use Rattle.bz_solo.proofs.OwnPrices.{room-merged}
use Rattle.bz_solo.proofs.Coming.{comes-after, comes-to-write}
use Rattle.bz_solo.proofs.Same.{undisturbed-later}
use Rattle.bz_solo.proofs.Spending.{fewer, publishes, wins, wins-last}

-- the laws on which it rests
pub record Laws (r : Resource) : Type 0 where
  pub prices : own_prices.Laws r
  pub leave : UndisturbedSwapsLeave
  pub freezes : UndisturbedFreezesFreezeTheLeaf
  pub go : UndisturbedTasksGoOn
  pub asked : AskedSwapsAreCounted

true-false : {A : Type 0} → true ≡ false → A
true-false e = absurd (cc)

same : (a b : ℕ) → a ≡ b → a ≤ b
same a b e = omega (arith, e)

through : (a b c d : ℕ) → a ≡ b → d ≡ c → b ≤ c → a ≤ d
through a b c d e f l = omega (arith, e, f, l)

module _ (r : Resource) (b : Laws r) (m n : SwapMemory) (w : ℕ) (e : Errand) (t : AnyTask) (entries : List Entry) (used more by : ℕ) (s : Scene) (y : Instant) (q : Past) (own : IsOwnEffect t s entries y) (serves : IsServing e t s.past) (few : words_asked e.call ≤ LEAF_RECORD_WORDS + 1) (next : IsNext 1 s.past q)
    (at : q.at q.now ≡ y) (stepped : HasStepped m n w used more) (paid : IsPaid r m w e t 0 0 used by s.past) where
  abbrev key : List ℕ
  key = key_of e.call

  goes : end_of t ≡ None
  goes = own_kinds.not-ended t entries own.laws own.asks

  kept : (solo_stretch r + one_mark r) * rivals n w ≤ (solo_stretch r + one_mark r) * rivals m w
  kept = fewer (solo_stretch r + one_mark r) (rivals m w) (rivals n w) stepped.rivals

  -- the prices after it
  prices-are : (z : Errand) → prices_in r q.config (q.at q.now).image z ≡ prices_in r s.past.config y.image z
  prices-are z = λ i. prices_in r (next.adds.continues.config i) (at i).image z

  -- no last swap has taken effect before
  not-made : IsMade e t 0 → ⊥
  not-made h = go h.told
    where
      go : ◌≡◌ {A = ℕ} 0 1 ⊎ (end_of t ≡ Some Done) → ⊥
      go (inl z) = absurd (omega (arith, z))
      go (inr d) = absurd (cc (goes, d))

  -- the price of what comes after a change does not stand on the round
  change-price : own_kinds.is_change (kind_of t) ≡ true → is_read e.call ≡ false → e.effected ≡ false → (round : Round) → coming_after r e.rest (kind_of t) ≤ coming r (prices_of r round e s.past) e (kind_of t)
  change-price c write quiet round = through _ _ _ _ (own_kinds.change-after r (prices_of r round e s.past) e (kind_of t) c) (comes-to-write r (prices_of r round e s.past) e (kind_of t) quiet write) (same _ _ refl)

  -- it is the effect of the call
  module _ (publishes_it : publishing_of t ≡ true) where
    change : own_kinds.is_change (kind_of t) ≡ true
    change = own_kinds.publishing-change t publishes_it

    quiet : e.effected ≡ false
    quiet = serves.once publishes_it

    write : is_read e.call ≡ false
    write = own_kinds.writes e.call (kind_of t) (paid.look quiet) (own_kinds.change-looks (kind_of t) change)

    -- the mark of the effect was kept for it
    falls : (r : Resource) → own_left r (record e { effected = true }) + one_mark r ≡ own_left r e
    falls Marks = ap (own_by Marks) (sym quiet)
    falls Descriptors = refl
    falls Slots = refl

    published-clean : IsClean e t 0 s.past → IsClean (record e { effected = true }) t 1 q
    published-clean c = record {
      made = c.made + 1;
      alone = undisturbed-later c.made 1 s.past q next.adds c.alone;
      counts = λ g. omega (arith, c.counts g);
      none = λ f. true-false (sym (own_kinds.change-twice (kind_of t) change) ∙ f);
      before = λ f l. true-false f;
      goes = λ f. true-false f;
      stands = c.stands;
      small = λ f k. true-false f;
    }

    published : (state : State) → IsIn state e t 0 s.past → Affords r m w e used by (0 + left_in r state e t s.past) → IsPaid r n w (record e { effected = true }) t 1 (one_mark r) more by q
    published (In Disturbed) h a = record {
      look = λ f. true-false f;
      thawed = paid.thawed;
      state = In Disturbed;
      holds = tt;
      affords = record { enough = publishes (solo_stretch r) (one_mark r) _ _ (own_left r e) (own_left r (record e { effected = true })) used more (weigh r t) (coming_after r e.rest (kind_of t)) (coming r (disturbed_prices r) e (kind_of t)) by (falls r) kept stepped.less (change-price change write quiet Disturbed) a.enough };
    }
    published (In Clean) h a = record {
      look = λ f. true-false f;
      thawed = paid.thawed;
      state = In Clean;
      holds = published-clean h;
      affords = record {
        enough = publishes 0 (one_mark r) _ _ (own_left r e) (own_left r (record e { effected = true })) used more (weigh r t) (coming_after r e.rest (kind_of t)) (coming r (prices_in r s.past.config (here s).image e) e (kind_of t)) by (falls r) kept stepped.less (change-price change write quiet Clean) a.enough;
      };
    }
    published Made h a = absurd (not-made h)

  -- it is not; the round stays what it is
  stays : IsClean e t 0 s.past → may_swap_twice (kind_of t) ≡ true → (e.effected ≡ false → 2 ≤ swaps_of t) → (e.effected ≡ false → kind_of t ≡ kinds.Merge → IsSmall e q) →
      coming r (prices_in r q.config (q.at q.now).image e) e (kind_of t) ≤ coming r (prices_in r s.past.config (here s).image e) e (kind_of t) → Affords r m w e used by (0 + left_in r (In Clean) e t s.past) → IsPaid r n w e t 1 0 more by q
  stays c twice left small l a = record {
    look = paid.look;
    thawed = paid.thawed;
    state = In Clean;
    holds = record {
      made = c.made + 1;
      alone = undisturbed-later c.made 1 s.past q next.adds c.alone;
      counts = λ g. omega (arith, c.counts g);
      none = λ f. true-false (sym twice ∙ f);
      before = λ f z. absurd (omega (arith, left f, z));
      goes = c.goes;
      stands = c.stands;
      small = small;
    };
    affords = record { enough = wins 0 _ _ (own_left r e) used more (weigh r t) _ _ by kept stepped.less l a.enough };
  }

  -- or its task's last swap has taken effect
  made-by : e.effected ≡ false → is_read e.call ≡ false → makes_no_change t ≡ true → swaps_of t ≤ 1 → round_price r (prices_in r s.past.config y.image (after e (kind_of t))) (after e (kind_of t)) ≤ coming_to_write r (prices_in r s.past.config (here s).image e) e (kind_of t) →
      Affords r m w e used by (0 + left_in r (In Clean) e t s.past) → IsPaid r n w e t 1 0 more by q
  made-by quiet write silent once l a = record {
    look = paid.look;
    thawed = paid.thawed;
    state = Made;
    holds = record { quiet = quiet; write = write; silent = silent; last = once; told = inl refl };
    affords = record {
      enough = wins-last _ _ (own_left r e) used more (weigh r t) _ (coming r (prices_in r s.past.config (here s).image e) e (kind_of t)) by kept stepped.less
          (through _ _ _ _ (ap (λ z. round_price r z (after e (kind_of t))) (prices-are (after e (kind_of t)))) (comes-to-write r (prices_in r s.past.config (here s).image e) e (kind_of t) quiet write) l) a.enough;
    };
  }

  one-asked : swaps_in (asks_of t) ≡ 1
  one-asked = ap swaps_in own.asks

  module _ (hides : publishing_of t ≡ false) (clean : IsClean e t 0 s.past) (a : Affords r m w e used by (0 + left_in r (In Clean) e t s.past)) where
    -- of a call that has had its effect
    later : e.effected ≡ true → IsPaid r n w e t 1 0 more by q
    later f = stays clean (serves.later f) (λ g. true-false (sym f ∙ g)) (λ g k. true-false (sym f ∙ g))
        (through _ _ _ _ (comes-after r (prices_in r q.config (q.at q.now).image e) e (kind_of t) f) (comes-after r (prices_in r s.past.config (here s).image e) e (kind_of t) f) (same _ _ refl)) a

    -- of one that has not
    module _ (quiet : e.effected ≡ false) where
      alone : IsUndisturbed (made_of t) s.past
      alone = subst (λ k. IsUndisturbed k s.past) (counted (clean.counts goes)) clean.alone
        where
          counted : clean.made ≡ made_of t + 0 → clean.made ≡ made_of t
          counted c = omega (arith, c)

      stand : Stand entries (here s)
      stand = (b.go t s own.config own.good own.knows alone).stands entries own.asks

      -- the first swap of a change
      changing : TakesNone t → IsPaid r n w e t 1 0 more by q
      changing takes = go takes.swaps
        where
          none : swaps_of t ≡ 0 → ⊥
          none z = absurd (omega (arith, z, b.asked t, one-asked))

          two : 0 < change_swaps t → 2 ≤ swaps_of t
          two l = elim (cases_lt 1 (swaps_of t)) [ inl more ↦ omega (arith, more) | inr less ↦ true-false (sym (own.laws.publishes_last entries (own_kinds.swapping-changes t l) less own.asks) ∙ hides) ]

          go : (is_look (kind_of t) ≡ true) ⊎ (0 < change_swaps t) → IsPaid r n w e t 1 0 more by q
          go (inl look) = absurd (none (own.laws.looks look).swaps)
          go (inr l) =
              let change : own_kinds.is_change (kind_of t) ≡ true = own_kinds.swapping-change t l in
              let write : is_read e.call ≡ false = own_kinds.writes e.call (kind_of t) (paid.look quiet) (own_kinds.change-looks (kind_of t) change) in
              stays clean (own_kinds.change-twice (kind_of t) change) (λ f. two l) (λ f k. absurd (own_kinds.change-merge (kind_of t) change k))
              (through _ _ _ _ (comes-to-write r (prices_in r q.config (q.at q.now).image e) e (kind_of t) quiet write) (comes-to-write r (prices_in r s.past.config (here s).image e) e (kind_of t) quiet write)
              (same _ _ (own_kinds.change-coming r (prices_in r q.config (q.at q.now).image e) (prices_in r s.past.config (here s).image e) e (kind_of t) change))) a

      -- a merge in the place of a copy
      joining : IsMergeFor t key s.past → IsPaid r n w e t 1 0 more by q
      joining made = go z.either
        where
          z : IsMerging t key (words_asked e.call) s y
          z = merging t key (words_asked e.call) entries s y made own.config own.good own.knows own.asks stand own.leads alone few

          write : is_read e.call ≡ false
          write = own_kinds.writes e.call (kind_of t) (paid.look quiet) (ap is_look z.kind)

          leaf : IsBeside t key s y → leaf_page q.config (image_of (q.at q.now).image) key ≡ leaf_page s.past.config (image_of (here s).image) key
          leaf h = (λ i. leaf_page (next.adds.continues.config i) (image_of (at i).image) key) ∙ h.leaf

          go : IsBeside t key s y ⊎ IsJoining t key (words_asked e.call) s y → IsPaid r n w e t 1 0 more by q
          go (inl h) =
              let before : IsSmall e s.past = clean.small quiet z.kind in
              stays clean (ap may_swap_twice z.kind) (λ f. h.twice) (λ f k. record { frozen = ap (λ (p : Page). p.frozen) (leaf h) ∙ before.frozen; few = ap is_crowded (leaf h) ∙ before.few })
              (through _ _ _ _ (comes-to-write r (prices_in r q.config (q.at q.now).image e) e (kind_of t) quiet write) (comes-to-write r (prices_in r s.past.config (here s).image e) e (kind_of t) quiet write)
              (same _ _ (ap (coming_to_write r (prices_in r q.config (q.at q.now).image e) e) z.kind ∙ sym (ap (coming_to_write r (prices_in r s.past.config (here s).image e) e) z.kind)))) a
          go (inr h) =
              made-by quiet write z.silent h.once
              (subst (λ k. round_price r (prices_in r s.past.config y.image (after e k)) (after e k) ≤ coming_to_write r (prices_in r s.past.config (here s).image e) e k) (sym z.kind)
              (both _ _ _ (roomy r b.prices e s.past.config (here s) y quiet write kinds.Merge refl h.room) (room-merged r))) a
            where
              both : (a b c : ℕ) → a ≤ b → b ≤ c → a ≤ c
              both a b c l m = omega (arith, l, m)

      -- the freeze, the copy or the split that was made for the call's key and its words
      making : IsMadeFor t key (words_asked e.call) s.past → IsPaid r n w e t 1 0 more by q
      making made =
          let is = own_kinds.making t key (words_asked e.call) s.past made in
          let write : is_read e.call ≡ false = own_kinds.writes e.call (kind_of t) (paid.look quiet) is.works in
          let undisturbed : IsUndisturbedSwap (config_of t) (asks_of t) (facts_of t) entries s y = record { config = own.config; good = own.good; knows = own.knows; asks = own.asks; alone = subst (λ k. IsUndisturbed k s.past) (clean.none is.once) clean.alone; leads = own.leads } in
          made-by quiet write is.silent (own.laws.single is.renews).swaps
          (left-price r b.prices e s.past.config (here s) y quiet write (kind_of t) is.once is.works (b.leave t key (words_asked e.call) entries s y undisturbed made few) (leaf-frozen t key (words_asked e.call) entries s y undisturbed made) (has-foot t key (words_asked e.call) s.past made)) a

      meant : IsMeantFor e.call t s.past → IsPaid r n w e t 1 0 more by q
      meant (inl none) = changing none
      meant (inr (inl made)) = joining made
      meant (inr (inr made)) = making made

    cleanly : (f : Bool) → e.effected ≡ f → IsPaid r n w e t 1 0 more by q
    cleanly true f = later f
    cleanly false f = meant f (serves.meant f)

  hidden : publishing_of t ≡ false → (state : State) → IsIn state e t 0 s.past → Affords r m w e used by (0 + left_in r state e t s.past) → IsPaid r n w e t 1 0 more by q
  hidden hides (In Disturbed) h a = record {
    look = paid.look;
    thawed = paid.thawed;
    state = In Disturbed;
    holds = tt;
    affords = record { enough = wins (solo_stretch r) _ _ (own_left r e) used more (weigh r t) (coming r (disturbed_prices r) e (kind_of t)) (coming r (disturbed_prices r) e (kind_of t)) by kept stepped.less (same _ _ refl) a.enough };
  }
  hidden hides (In Clean) h a = cleanly hides h a e.effected refl
  hidden hides Made h a = absurd (not-made h)

  by-publishing : (p : Bool) → publishing_of t ≡ p → IsPaid r n w (effected_by p e) t 1 (mark_of_effect r p) more by q
  by-publishing true p = published p paid.state paid.holds paid.affords
  by-publishing false p = hidden p paid.state paid.holds paid.affords

pub own-paid : (r : Resource) → Laws r → OwnEffectsArePaid r
own-paid r b m n w e t entries used more by s y q own serves few next at stepped paid = by-publishing r b m n w e t entries used more by s y q own serves few next at stepped paid (publishing_of t) refl
