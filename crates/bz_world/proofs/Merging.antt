-- What is known of a merge that is due, from one moment to the next.
use Rattle.std.proofs.Common.{◌≡◌, ◌≢◌, ◌≤◌, ◌<◌, ◌+◌, ℕ, suc, Bool, true, List, length, arith, refl, sym, ap, subst, ◌∙◌, inl, inr, None}
use Rattle.std.proofs.lemmas.Bool.{cases_lt, true≢false}
use Rattle.bz_call.specs.Map.{key_of}
use Rattle.bz_call.specs.declared.replies.Spent.TheVariants.{Nodes, Swaps}
use Rattle.bz_content.specs.Content.{view_in}
use Rattle.bz_stage.specs.FromLeaves.Neighbours.{MayBeMerged}
use Rattle.bz_layout.specs.declared.config.Config.{Config}
use Rattle.bz_solo.specs.FromAlone.Counts.{HasOthers}
use Rattle.bz_solo.specs.FromJoined.Neighbours.{KnownLeavesStay}
use Rattle.bz_solo.specs.FromTally.Leaves.{leaves_in}
use Rattle.bz_mark.specs.Log.{Log, with_mark}
use Rattle.bz_mark.specs.declared.marks.Mark.{Mark}
use Rattle.bz_mark.proofs.MomentLaws.{at_moment-earlier}
use Rattle.bz_any_task.specs.Duties.{end_of, made_of, swaps_of}
use Rattle.bz_any_task.specs.Kinds as kinds
use Rattle.bz_any_task.specs.Kinds.{Kind, is_look, kind_of}
use Rattle.bz_sound.specs.Calls.{Open}
use Rattle.bz_mark.specs.Counts.{count_taken}
use Rattle.bz_sound.specs.Power.Spent.{count_used}
use Rattle.bz_mark.specs.Times.{since_on}
use Rattle.bz_sound.specs.Replies.{Pages}
use Rattle.bz_refinement.specs.Story.{Story, and_then}
use Rattle.bz_task.specs.Instant.{Instant}
use Rattle.bz_task.specs.Scene.{Continues, Past}
use Rattle.bz_task.specs.declared.todo.Outcome.{Outcome}
use Rattle.bz_task.specs.declared.todo.Outcome.TheVariants.{Full}
use Rattle.bz_world.specs.Inside.Exact.{Reach}
use Rattle.bz_world.specs.Inside.Merging.{taken_then, used_then, leaves_at, looks_on, StoodSince, WasOver, EndsShort, IsMerging, IsDuly}
use Rattle.bz_world.specs.Merges.{LacksForMerge}
use Rattle.bz_solo.specs.declared.rest.Rest.TheVariants as rest
use Rattle.bz_world.specs.Inside.Paid.{Stock}
use Rattle.bz_world.specs.declared.serving.OpenCall.{OpenCall}
use Rattle.bz_world.proofs.Exact.{seeks-look}
use Rattle.bz_world.proofs.Solitary.{now-is}

-- what looks on is a look-up
pub on-look : (k : Kind) → looks_on k ≡ true → is_look k ≡ true
on-look kinds.Seek e = refl
on-look kinds.ReadWhole e = refl
on-look k e = absurd (true≢false (sym e))

-- at one moment more all moments are what they were
module _ (p q : Past) (cont : Continues p q) where
  pub at-same : (m : ℕ) → m ≤ p.now → q.at m ≡ p.at m
  at-same m by_now = cont.at m by_now

  leaves-same : (m : ℕ) → m ≤ p.now → leaves_at q m ≡ leaves_at p m
  leaves-same m by_now = ap (λ (c : Config). leaves_in c (q.at m).image) cont.config ∙ ap (λ (z : Instant). leaves_in p.config z.image) (cont.at m by_now)

  may-before : (m : ℕ) → m ≤ p.now → (key : List ℕ) (c : Config) → MayBeMerged c (q.at m).image key → MayBeMerged c (p.at m).image key
  may-before m by_now key c = subst (λ (z : Instant). MayBeMerged c z.image key) (cont.at m by_now)

  stood-later : (q.at q.now).effects ≡ (p.at p.now).effects → (m : ℕ) → StoodSince m p → StoodSince m q
  stood-later same m s = record { by_now = omega (arith, s.by_now, cont.now); still = same ∙ (s.still ∙ ap (λ (z : Instant). z.effects) (sym (cont.at m s.by_now))) }

  module _ (begun : p.since ≤ p.now) where
    since-same : q.at q.since ≡ p.at p.since
    since-same = ap q.at cont.since ∙ cont.at p.since begun

    -- so many swaps more took effect
    pub others-more : (k more : ℕ) → (q.at q.now).effects ≡ (p.at p.now).effects + more → HasOthers 0 k p → HasOthers 0 (k + more) q
    others-more k more up counted = omega (arith, up, counted, ap (λ (z : Instant). z.effects) since-same)

    low-same : (view_in p.config (p.at p.since).image).height ≡ 1 → (view_in q.config (q.at q.since).image).height ≡ 1
    low-same low = ap (λ (c : Config). (view_in c (q.at q.since).image).height) cont.config ∙ (ap (λ (z : Instant). (view_in p.config z.image).height) since-same ∙ low)

  may-same : (m : ℕ) → m ≤ p.now → (key : List ℕ) → MayBeMerged p.config (p.at m).image key → MayBeMerged q.config (q.at m).image key
  may-same m by_now key may = subst (λ (c : Config). MayBeMerged c (q.at m).image key) (sym cont.config) (subst (λ (z : Instant). MayBeMerged p.config z.image key) (sym (cont.at m by_now)) may)

-- no swap took effect at a mark
pub still-effects : (story after : Story) (n : ℕ) (y : Instant) → after.at ≡ and_then story.at n y → y.effects ≡ (story.at n).effects → (after.at (suc n)).effects ≡ (story.at n).effects
still-effects story after n y is same = ap (λ (at : ℕ → Instant). (at (suc n)).effects) is ∙ (ap (λ (z : Instant). z.effects) (now-is story.at n y) ∙ same)

-- with a mark more
module _ (c : Config) (log : Log) (mark : Mark) (p q : Past) (cont : Continues p q) (begun : p.since ≤ p.now) (here : p.now ≡ length log.past) where
  then-taken : (at : ℕ) → suc at ≤ p.now → taken_then c (with_mark log mark) at ≡ taken_then c log at
  then-taken at by_now = ap (λ (past : List Mark). count_taken c (since_on past)) (at_moment-earlier (suc at) mark log.past (omega (arith, by_now, here)))

  then-used : (at : ℕ) → suc at ≤ p.now → used_then c (with_mark log mark) at ≡ used_then c log at
  then-used at by_now = ap (count_used c log.start) (at_moment-earlier (suc at) mark log.past (omega (arith, by_now, here)))

  -- that a merge is over stays so
  over-then : (at moment : ℕ) → suc at ≤ p.now → moment ≤ p.now → WasOver c log at moment p → WasOver c (with_mark log mark) at moment q
  over-then at moment by_now within (inl less) = inl (omega (arith, leaves-same p q cont moment within, less, leaves-same p q cont (suc at) by_now))
  over-then at moment by_now within (inr lacks) = inr (subst (λ (past : List Mark). LacksForMerge c log.start past) (sym (at_moment-earlier (suc at) mark log.past (omega (arith, by_now, here)))) lacks)

  -- at which no swap took effect
  module _ (same : (q.at q.now).effects ≡ (p.at p.now).effects) (known : KnownLeavesStay) (r : Reach) (stock : Stock) (x : OpenCall) where
    others-still : (k : ℕ) → HasOthers 0 k p → HasOthers 0 k q
    others-still k counted = omega (arith, others-more p q cont begun k 0 (omega (arith, same)) counted)

    merging-later : (at : ℕ) → suc at ≤ p.now → IsMerging c log at p r stock x → IsMerging c (with_mark log mark) at q r stock x
    merging-later at by_now (inl s) = inl (record {
      standing = record { stood = stood-later p q cont same (suc at) s.standing.stood; taken = omega (arith, s.standing.taken, then-taken at by_now); left = omega (arith, s.standing.left, then-used at by_now) };
      task = elim s.task [
        | inl tells ↦ inl tells
        | inr look ↦ inr (record { looks = look.looks; first = look.first; alone = others-still 0 look.alone })
      ];
    })
    merging-later at by_now (inr (inl u)) = inr (inl (record {
      kind = u.kind;
      moment = u.moment;
      after = u.after;
      stood = stood-later p q cont same u.moment u.stood;
      leaves = leaves-same p q cont u.moment u.stood.by_now ∙ (u.leaves ∙ sym (leaves-same p q cont (suc at) by_now));
      alone = λ goes. others-still (made_of x.task + r.untold) (u.alone goes);
      knows = known.later x.task (key_of x.call) p q u.knows cont;
      seen = u.seen;
      seen_since = omega (arith, u.seen_since, cont.since);
      seen_by_now = omega (arith, u.seen_by_now, cont.now);
      may = may-same p q cont u.seen u.seen_by_now (key_of x.call) u.may;
      wants = u.wants;
      left = λ some. omega (arith, u.left some, then-used at by_now);
      taken = omega (arith, u.taken, then-taken at by_now);
      before = u.before;
      ends = λ o e. short-later at by_now o (u.ends o e);
    }))
      where
        short-later : (at : ℕ) → suc at ≤ p.now → (o : Outcome) → EndsShort c log at r o → EndsShort c (with_mark log mark) at r o
        short-later at by_now (Full Nodes) short = omega (arith, short, then-used at by_now)
        short-later at by_now (Full Swaps) short = omega (arith, short, then-taken at by_now)
        short-later at by_now o short = absurd short
    merging-later at by_now (inr (inr (inl d))) = inr (inr (inl (record {
      kind = d.kind;
      moment = d.moment;
      after = d.after;
      stood = stood-later p q cont same d.moment d.stood;
      leaves = omega (arith, leaves-same p q cont d.moment d.stood.by_now, d.leaves, leaves-same p q cont (suc at) by_now);
      waits = d.waits;
    })))
    merging-later at by_now (inr (inr (inr o))) = inr (inr (inr (record {
      later = o.later;
      moment = o.moment;
      after = o.after;
      stood = stood-later p q cont same o.moment o.stood;
      over = over-then at o.moment by_now o.stood.by_now o.over;
    })))

    pub duly-later : (opened : Open) (z : Reach) → z ≡ r → IsDuly c log opened p r stock x → IsDuly c (with_mark log mark) opened q z stock x
    duly-later opened z e d = subst (λ k. IsDuly c (with_mark log mark) opened q k stock x) (sym e) (record {
      looking = λ quiet seek. others-still 0 (d.looking quiet seek);
      deleting = λ quiet kind on. let g = d.deleting quiet kind on in record {
        alone = others-still (made_of x.task + r.untold) g.alone;
        wants = g.wants;
        swaps = g.swaps;
        way = g.way;
        low = λ path is few. low-same p q cont begun (g.low path is few);
      };
      merging = λ at is deletes. let m = d.merging at is deletes in record {
        after_begin = m.after_begin;
        by_now = omega (arith, m.by_now, cont.now);
        merging = λ may. merging-later at m.by_now (m.merging (may-before p q cont (suc at) m.by_now (key_of x.call) c may));
      };
    })

  -- at which its own swap took effect that makes no change
  module _ (up : (q.at q.now).effects ≡ (p.at p.now).effects + 1) (known : KnownLeavesStay) (r z : Reach) (stock : Stock) (x : OpenCall) (none : r.untold ≡ 0) (one : z.untold ≡ 1) (taken : z.taken ≡ r.taken) (way : z.underway ≡ r.underway) (goes : end_of x.task ≡ None)
      (no_look : is_look (kind_of x.task) ≡ true → ⊥) (keeps : x.rest ≢ rest.Leaf → leaves_at q q.now ≡ leaves_at p p.now) (last : kind_of x.task ≡ kinds.Merge → swaps_of x.task ≤ 1 → leaves_at q q.now + 1 ≡ leaves_at p p.now) (earlier : kind_of x.task ≡ kinds.Merge → 1 < swaps_of x.task → leaves_at q q.now ≡ leaves_at p p.now) where
    one-more : HasOthers 0 (made_of x.task + r.untold) p → HasOthers 0 (made_of x.task + z.untold) q
    one-more counted = let sum : made_of x.task + r.untold + 1 ≡ made_of x.task + z.untold = omega (arith, none, one) in subst (λ k. HasOthers 0 k q) sum (others-more p q cont begun (made_of x.task + r.untold) 1 up counted)

    abbrev now-stood : StoodSince q.now q
    now-stood = record { by_now = omega arith; still = refl }

    merging-struck : (at : ℕ) → suc at ≤ p.now → ((m : ℕ) → suc at ≤ m → StoodSince m p → leaves_at p p.now ≡ leaves_at p m) → IsMerging c log at p r stock x → IsMerging c (with_mark log mark) at q z stock x
    merging-struck at by_now stand (inl s) = absurd (elim s.task [
      | inl tells ↦ omega (arith, (tells.waits goes).0, none)
      | inr look ↦ no_look (on-look (kind_of x.task) look.looks)
    ])
    merging-struck at by_now stand (inr (inl u)) = elim (cases_lt 1 (swaps_of x.task)) [
      | inl more ↦ inr (inl (record {
        kind = u.kind;
        moment = q.now;
        after = omega (arith, by_now, cont.now);
        stood = now-stood;
        leaves = earlier u.kind more ∙ (stand u.moment u.after u.stood ∙ (u.leaves ∙ sym (leaves-same p q cont (suc at) by_now)));
        alone = λ on. one-more (u.alone on);
        knows = known.later x.task (key_of x.call) p q u.knows cont;
        seen = u.seen;
        seen_since = omega (arith, u.seen_since, cont.since);
        seen_by_now = omega (arith, u.seen_by_now, cont.now);
        may = may-same p q cont u.seen u.seen_by_now (key_of x.call) u.may;
        wants = u.wants;
        left = λ some. omega (arith, u.left some, then-used at by_now);
        taken = omega (arith, u.taken, then-taken at by_now, taken, way);
        before = λ few. absurd (omega (arith, few, more));
        ends = λ o e. absurd (cc (goes, e));
      }))
      | inr few ↦ inr (inr (inl (record {
        kind = u.kind;
        moment = q.now;
        after = omega (arith, by_now, cont.now);
        stood = now-stood;
        leaves = omega (arith, last u.kind few, stand u.moment u.after u.stood, u.leaves, leaves-same p q cont (suc at) by_now);
        waits = λ on. (one, few);
      })))
    ]
    merging-struck at by_now stand (inr (inr (inl d))) = absurd (omega (arith, (d.waits goes).0, none))
    merging-struck at by_now stand (inr (inr (inr o))) = inr (inr (inr (record {
      later = o.later;
      moment = q.now;
      after = omega (arith, by_now, cont.now);
      stood = now-stood;
      over = elim o.over [
        | inl less ↦ inl (omega (arith, keeps o.later, stand o.moment o.after o.stood, less, leaves-same p q cont (suc at) by_now))
        | inr lacks ↦ inr (subst (λ (past : List Mark). LacksForMerge c log.start past) (sym (at_moment-earlier (suc at) mark log.past (omega (arith, by_now, here)))) lacks)
      ];
    })))

    pub duly-struck : (opened : Open) → ((at m : ℕ) → opened.begun ≤ at → suc at ≤ m → StoodSince m p → leaves_at p p.now ≡ leaves_at p m) → IsDuly c log opened p r stock x → IsDuly c (with_mark log mark) opened q z stock x
    duly-struck opened stand d = record {
      looking = λ quiet seek. absurd (no_look (seeks-look (kind_of x.task) seek));
      deleting = λ quiet kind on. let g = d.deleting quiet kind on in record {
        alone = one-more g.alone;
        wants = g.wants;
        swaps = g.swaps;
        way = g.way;
        low = λ path is few. low-same p q cont begun (g.low path is few);
      };
      merging = λ at is deletes. let m = d.merging at is deletes in record {
        after_begin = m.after_begin;
        by_now = omega (arith, m.by_now, cont.now);
        merging = λ may. merging-struck at m.by_now (λ moment after. stand at moment m.after_begin after) (m.merging (may-before p q cont (suc at) m.by_now (key_of x.call) c may));
      };
    }

-- where its worker begins a swap
module _ (c : Config) (log : Log) (p : Past) (r z : Reach) (stock : Stock) (x : OpenCall) (taken : z.taken ≡ r.taken + 1) (none : r.untold ≡ 0) (still : z.untold ≡ 0) (way : r.underway ≡ 0) (now : z.underway ≡ 1) (goes : end_of x.task ≡ None)
    (swaps : swaps_of x.task ≡ 0 → ⊥) (looks : is_look (kind_of x.task) ≡ true → swaps_of x.task ≡ 0) where
  none-more : HasOthers 0 (made_of x.task + r.untold) p → HasOthers 0 (made_of x.task + z.untold) p
  none-more counted = let sum : made_of x.task + r.untold ≡ made_of x.task + z.untold = omega (arith, none, still) in subst (λ k. HasOthers 0 k p) sum counted

  merging-swaps : (at : ℕ) → IsMerging c log at p r stock x → IsMerging c log at p z stock x
  merging-swaps at (inl s) = absurd (elim s.task [
    | inl tells ↦ omega (arith, (tells.waits goes).0, none)
    | inr look ↦ swaps (looks (on-look (kind_of x.task) look.looks))
  ])
  merging-swaps at (inr (inl u)) = inr (inl (record {
    kind = u.kind;
    moment = u.moment;
    after = u.after;
    stood = u.stood;
    leaves = u.leaves;
    alone = λ on. none-more (u.alone on);
    knows = u.knows;
    seen = u.seen;
    seen_since = u.seen_since;
    seen_by_now = u.seen_by_now;
    may = u.may;
    wants = u.wants;
    left = u.left;
    taken = omega (arith, u.taken, taken, way, now);
    before = λ few. still;
    ends = λ o e. absurd (cc (goes, e));
  }))
  merging-swaps at (inr (inr (inl d))) = absurd (omega (arith, (d.waits goes).0, none))
  merging-swaps at (inr (inr (inr o))) = inr (inr (inr o))

  pub duly-swaps : (opened : Open) → IsDuly c log opened p r stock x → IsDuly c log opened p z stock x
  duly-swaps opened d = record {
    looking = d.looking;
    deleting = λ quiet kind on. let g = d.deleting quiet kind on in record { alone = none-more g.alone; wants = g.wants; swaps = g.swaps; way = g.way; low = g.low };
    merging = λ at is deletes. let m = d.merging at is deletes in record { after_begin = m.after_begin; by_now = m.by_now; merging = λ may. merging-swaps at (m.merging may) };
  }

-- whether its leaf is copied alone is nothing to it
merging-unmerged : (c : Config) (log : Log) (at : ℕ) (p : Past) (r : Reach) (stock : Stock) (x : OpenCall) (alone : Bool) → IsMerging c log at p r stock x → IsMerging c log at p r stock (record x { alone = alone })
merging-unmerged c log at p r stock x alone (inl s) = inl (record { standing = s.standing; task = elim s.task [ inl tells ↦ inl (assumption tells) | inr look ↦ inr (assumption look) ] })
merging-unmerged c log at p r stock x alone (inr (inl u)) = inr (inl (record { kind = u.kind; moment = u.moment; after = u.after; stood = u.stood; leaves = u.leaves; alone = u.alone; knows = u.knows; seen = u.seen; seen_since = u.seen_since; seen_by_now = u.seen_by_now; may = u.may; wants = u.wants; left = u.left; taken = u.taken; before = u.before; ends = u.ends }))
merging-unmerged c log at p r stock x alone (inr (inr (inl d))) = inr (inr (inl (record { kind = d.kind; moment = d.moment; after = d.after; stood = d.stood; leaves = d.leaves; waits = d.waits })))
merging-unmerged c log at p r stock x alone (inr (inr (inr o))) = inr (inr (inr (record { later = o.later; moment = o.moment; after = o.after; stood = o.stood; over = o.over })))

pub duly-unmerged : (c : Config) (log : Log) (opened : Open) (p : Past) (r : Reach) (stock : Stock) (x : OpenCall) (alone : Bool) → IsDuly c log opened p r stock x → IsDuly c log opened p r stock (record x { alone = alone })
duly-unmerged c log opened p r stock x alone d = record {
  looking = d.looking;
  deleting = λ quiet kind on. assumption (d.deleting quiet kind on);
  merging = λ at is deletes. let m = d.merging at is deletes in record { after_begin = m.after_begin; by_now = m.by_now; merging = λ may. merging-unmerged c log at p r stock x alone (m.merging may) };
}

-- nor is whether its own freeze was the last task to end
merging-froze : (c : Config) (log : Log) (at : ℕ) (p : Past) (r : Reach) (stock : Stock) (x : OpenCall) (froze : Bool) → IsMerging c log at p r stock x → IsMerging c log at p r stock (record x { froze = froze })
merging-froze c log at p r stock x froze (inl s) = inl (record { standing = s.standing; task = elim s.task [ inl tells ↦ inl (assumption tells) | inr look ↦ inr (assumption look) ] })
merging-froze c log at p r stock x froze (inr (inl u)) = inr (inl (record { kind = u.kind; moment = u.moment; after = u.after; stood = u.stood; leaves = u.leaves; alone = u.alone; knows = u.knows; seen = u.seen; seen_since = u.seen_since; seen_by_now = u.seen_by_now; may = u.may; wants = u.wants; left = u.left; taken = u.taken; before = u.before; ends = u.ends }))
merging-froze c log at p r stock x froze (inr (inr (inl d))) = inr (inr (inl (record { kind = d.kind; moment = d.moment; after = d.after; stood = d.stood; leaves = d.leaves; waits = d.waits })))
merging-froze c log at p r stock x froze (inr (inr (inr o))) = inr (inr (inr (record { later = o.later; moment = o.moment; after = o.after; stood = o.stood; over = o.over })))

pub duly-froze : (c : Config) (log : Log) (opened : Open) (p : Past) (r : Reach) (stock : Stock) (x : OpenCall) (froze : Bool) → IsDuly c log opened p r stock x → IsDuly c log opened p r stock (record x { froze = froze })
duly-froze c log opened p r stock x froze d = record {
  looking = d.looking;
  deleting = λ quiet kind on. assumption (d.deleting quiet kind on);
  merging = λ at is deletes. let m = d.merging at is deletes in record { after_begin = m.after_begin; by_now = m.by_now; merging = λ may. merging-froze c log at p r stock x froze (m.merging may) };
}

-- nor are the pages
merging-pages : (c : Config) (log : Log) (pages : Pages) (at : ℕ) (p : Past) (r : Reach) (stock : Stock) (x : OpenCall) → IsMerging c log at p r stock x → IsMerging c (record log { pages = pages }) at p r stock x
merging-pages c log pages at p r stock x (inl s) = inl (record { standing = record { stood = s.standing.stood; taken = s.standing.taken; left = s.standing.left }; task = s.task })
merging-pages c log pages at p r stock x (inr (inl u)) = inr (inl (record { kind = u.kind; moment = u.moment; after = u.after; stood = u.stood; leaves = u.leaves; alone = u.alone; knows = u.knows; seen = u.seen; seen_since = u.seen_since; seen_by_now = u.seen_by_now; may = u.may; wants = u.wants; left = u.left; taken = u.taken; before = u.before; ends = λ o e. short-pages o (u.ends o e) }))
  where
    short-pages : (o : Outcome) → EndsShort c log at r o → EndsShort c (record log { pages = pages }) at r o
    short-pages (Full Nodes) short = short
    short-pages (Full Swaps) short = short
    short-pages o short = absurd short
merging-pages c log pages at p r stock x (inr (inr (inl d))) = inr (inr (inl d))
merging-pages c log pages at p r stock x (inr (inr (inr o))) = inr (inr (inr (record { later = o.later; moment = o.moment; after = o.after; stood = o.stood; over = o.over })))

pub duly-pages : (c : Config) (log : Log) (pages : Pages) (opened : Open) (p : Past) (r : Reach) (stock : Stock) (x : OpenCall) → IsDuly c log opened p r stock x → IsDuly c (record log { pages = pages }) opened p r stock x
duly-pages c log pages opened p r stock x d = record {
  looking = d.looking;
  deleting = d.deleting;
  merging = λ at is deletes. let m = d.merging at is deletes in record { after_begin = m.after_begin; by_now = m.by_now; merging = λ may. merging-pages c log pages at p r stock x (m.merging may) };
}
