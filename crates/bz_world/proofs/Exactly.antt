-- A call whose leaf had room when it began, while no other call is open, has not its leaf made anew; nor looks it its key up again, but for a delete that has made
-- its change.
use Rattle.std.proofs.Common.{◌≡◌, ◌≢◌, ◌⊎◌, ◌<◌, ℕ, true, false, length, arith, sym, ap, ◌∙◌, inl, inr, Some, None}
use Rattle.std.proofs.lemmas.Bool.{true≢false}
use Rattle.bz_solo.specs.Errands.{is_read}
use Rattle.bz_solo.specs.FromAlone.Counts.{HasOthers}
use Rattle.bz_layout.specs.declared.thresholds.TheConstants.{SPLIT_SLOTS}
use Rattle.bz_any_task.specs.Duties.{end_of, wants_of}
use Rattle.bz_any_task.specs.Ends.{IsEndOf}
use Rattle.bz_any_task.specs.Kinds as kinds
use Rattle.bz_any_task.specs.Kinds.{Kind, is_look, kind_of}
use Rattle.bz_any_task.specs.Laws.{AreLaws}
use Rattle.bz_sound.specs.Calls.{Open}
use Rattle.bz_sound.specs.Solitary.{IsSolitary}
use Rattle.bz_task.specs.Scene.{Past}
use Rattle.bz_task.specs.declared.todo.Outcome.{Outcome}
use Rattle.bz_task.specs.declared.todo.Outcome.TheVariants.{Path, Key, Restart}
use Rattle.bz_world.specs.Inside.Exact.{Reach, IsExact, reach_idle, IsLookingUp, LooksAfter, IsFull, seeks, puts}
use Rattle.bz_world.specs.Inside.Going.{HadEffect, MustGoOn, HadNoRoom, LooksUpAgain, ReadsAgain, known}
use Rattle.bz_world.specs.Inside.Paid.{Stock, is_joining, stock_of}
use Rattle.bz_world.specs.Inside.Serving.{tells_of}
use Rattle.bz_world.specs.Roomy.{HadRoom}
use Rattle.bz_world.specs.declared.parts.Parts.{Parts}
use Rattle.bz_world.specs.declared.serving.OpenCall.{OpenCall}
use Rattle.bz_world.proofs.Exact.{has-counted, seeks-look}

-- a look-up ends with what it looked for, or is to begin again
abbrev pub EndsLooking : Outcome → Type 0
EndsLooking (Path path) = Unit {0}
EndsLooking (Key view) = Unit {0}
EndsLooking Restart = Unit {0}
EndsLooking outcome = ⊥

pub seeks-ends : (k : Kind) (o : Outcome) → seeks k ≡ true → IsEndOf k o → EndsLooking o
seeks-ends kinds.Seek (Path path) e h = tt
seeks-ends kinds.Seek Restart e h = tt
seeks-ends kinds.Seek o e h = absurd h
seeks-ends kinds.Find (Key view) e h = tt
seeks-ends kinds.Find Restart e h = tt
seeks-ends kinds.Find o e h = absurd h
seeks-ends k o e h = absurd (true≢false (sym e))

-- what only looks changes nothing
puts-none : (k : Kind) → is_look k ≡ true → puts k ≡ true → ⊥
puts-none kinds.Insert looks put = true≢false (sym looks)
puts-none kinds.Update looks put = true≢false (sym looks)
puts-none kinds.Delete looks put = true≢false (sym looks)
puts-none k looks put = true≢false (sym put)

-- a task of no other kind serves it
pub never-exact : (opened : Open) (p : Past) (r : Reach) (stock : Stock) (tells : ℕ) (x : OpenCall) → x.effect ≡ None → (seeks (kind_of x.task) ≡ true → ⊥) → (puts (kind_of x.task) ≡ true → ⊥) → IsExact opened p r stock tells x → ⊥
never-exact opened p r stock tells x quiet seek put (inl look) = seek look.looks
never-exact opened p r stock tells x quiet seek put (inr (inl ch)) = put ch.kind
never-exact opened p r stock tells x quiet seek put (inr (inr (inl done))) = done.effected quiet
never-exact opened p r stock tells x quiet seek put (inr (inr (inr after))) = after.counted.effected quiet

-- where its task has ended so, without effect, that was its look-up
pub only-looked : (opened : Open) (p : Past) (r : Reach) (stock : Stock) (tells : ℕ) (x : OpenCall) → x.effect ≡ None → (o : Outcome) → end_of x.task ≡ Some o → (IsFull o → ⊥) → IsExact opened p r stock tells x → IsLookingUp opened p r stock x
only-looked opened p r stock tells x quiet o ended full (inl look) = look
only-looked opened p r stock tells x quiet o ended full (inr (inl ch)) = absurd (full (ch.ends o ended))
only-looked opened p r stock tells x quiet o ended full (inr (inr (inl done))) = absurd (done.effected quiet)
only-looked opened p r stock tells x quiet o ended full (inr (inr (inr after))) = absurd (after.counted.effected quiet)

-- and where it looks once more at its leaf, nobody's swap took effect since it began to
pub looks-after : (opened : Open) (p : Past) (r : Reach) (stock : Stock) (tells : ℕ) (x : OpenCall) → x.effect ≢ None → is_look (kind_of x.task) ≡ true → IsExact opened p r stock tells x → LooksAfter opened p r stock tells x
looks-after opened p r stock tells x effected looks (inl look) = absurd (effected look.quiet)
looks-after opened p r stock tells x effected looks (inr (inl ch)) = absurd (effected ch.quiet)
looks-after opened p r stock tells x effected looks (inr (inr (inl done))) = absurd (puts-none (kind_of x.task) looks done.kind)
looks-after opened p r stock tells x effected looks (inr (inr (inr after))) = after

-- a call that has had its effect has it
pub has-effect : (p : Parts) (w at : ℕ) (had : HadEffect p w at) → had.on.serving.effect ≢ None
has-effect p w at had none = let never : Some at ≡ None = sym had.effect ∙ none in absurd (cc never)

module _ (p : Parts) (w : ℕ) (on : MustGoOn p w) where
  -- so of a task of another kind
  pub again-kind : on.serving.effect ≡ None → (k : Kind) → kind_of on.serving.task ≡ k → seeks k ≡ false → puts k ≡ false → HadNoRoom p w on
  again-kind quiet k is seek put solitary room = never-exact on.between.opened _ _ _ _ on.serving quiet (λ e. true≢false (sym e ∙ (ap seeks is ∙ seek))) (λ e. true≢false (sym e ∙ (ap puts is ∙ put))) (on.exact solitary room)

  -- of one that ended in another way
  pub again-ended : on.serving.effect ≡ None → (o : Outcome) → end_of on.serving.task ≡ Some o → IsEndOf (kind_of on.serving.task) o → (EndsLooking o → ⊥) → (IsFull o → ⊥) → HadNoRoom p w on
  again-ended quiet o ended is looking full solitary room = looking (seeks-ends (kind_of on.serving.task) o (only-looked on.between.opened _ _ _ _ on.serving quiet o ended full (on.exact solitary room)).looks is)

  -- of one that is to begin again, but not where its worker was alone
  pub again-restart : on.serving.effect ≡ None → end_of on.serving.task ≡ Some Restart → (others made : ℕ) → HasOthers others made (known p w on).past → (others ≡ 0 → ⊥) → HadNoRoom p w on
  again-restart quiet ended others made counted never solitary room =
      let look = only-looked on.between.opened _ _ _ _ on.serving quiet Restart ended (λ full. full) (on.exact solitary room) in
      never (omega (arith, look.alone, counted))

  -- of one whose own freeze of its leaf was the last to end
  pub again-froze : on.serving.effect ≡ None → (o : Outcome) → end_of on.serving.task ≡ Some o → (IsFull o → ⊥) → on.serving.froze ≡ true → HadNoRoom p w on
  again-froze quiet o ended full froze solitary room = true≢false (sym froze ∙ (only-looked on.between.opened _ _ _ _ on.serving quiet o ended full (on.exact solitary room)).thawed)

  -- and of a call that changes nothing
  pub again-call : is_read on.serving.call ≡ true → HadNoRoom p w on
  again-call reads solitary room = true≢false (sym reads ∙ (sym (ap is_read on.between.call_open.call) ∙ room.writes))

  -- so nothing is asked of it
  pub no-look-up : HadNoRoom p w on → LooksUpAgain p w on
  no-look-up none solitary room = absurd (none solitary room)

  pub no-reading : HadNoRoom p w on → ReadsAgain p w on
  no-reading none solitary room = absurd (none solitary room)

  -- one that has made its change looks on
  pub counted : on.serving.effect ≢ None → LooksUpAgain p w on
  counted effected solitary room = has-counted on.between.opened _ _ _ on.serving effected (on.exact solitary room)

  -- a merge of two nodes comes only where there was no room
  pub joins-none : on.serving.effect ≢ None → is_joining (kind_of on.serving.task) ≡ true → HadNoRoom p w on
  joins-none effected joins solitary room = by (on.exact solitary room)
    where
      joined-puts : (k : Kind) → is_joining k ≡ true → puts k ≡ true → ⊥
      joined-puts kinds.Merge j l = cc l
      joined-puts kinds.MergeNodes j l = cc l
      joined-puts k j l = cc j

      joined-looks : (k : Kind) → is_joining k ≡ true → is_look k ≡ true → ⊥
      joined-looks kinds.Merge j l = cc l
      joined-looks kinds.MergeNodes j l = cc l
      joined-looks k j l = cc j

      by : IsExact on.between.opened (known p w on).past (reach_idle p.access) (stock_of p) (tells_of on.serving) on.serving → ⊥
      by (inl look) = effected look.quiet
      by (inr (inl ch)) = effected ch.quiet
      by (inr (inr (inl done))) = joined-puts (kind_of on.serving.task) joins done.kind
      by (inr (inr (inr after))) = joined-looks (kind_of on.serving.task) joins after.looks

  pub looks-on : on.serving.effect ≢ None → is_look (kind_of on.serving.task) ≡ true → ReadsAgain p w on
  looks-on effected looks solitary room =
      let after = looks-after on.between.opened _ _ _ _ on.serving effected looks (on.exact solitary room) in
      (after.counted, after.alone)

  -- nor does its task end for want of slots, or because the tree is too high: it takes none
  slotless : IsSolitary w p.journal.past → HadRoom p.config p.journal.start p.journal.past on.between.opened → AreLaws on.serving.task → wants_of on.serving.task ≡ 0
  slotless solitary room laws = elim (on.exact solitary room) [
    | inl look ↦ (laws.looks (seeks-look (kind_of on.serving.task) look.looks)).wants
    | inr (inl ch) ↦ ch.wants
    | inr (inr (inl done)) ↦ done.wants
    | inr (inr (inr after)) ↦ (laws.looks after.looks).wants
  ]

  pub never-full : AreLaws on.serving.task → length p.slots.free < wants_of on.serving.task → IsSolitary w p.journal.past → HadRoom p.config p.journal.start p.journal.past on.between.opened → ⊥
  never-full laws fewer solitary room = omega (arith, slotless solitary room laws, fewer)

  pub never-high : AreLaws on.serving.task → wants_of on.serving.task ≡ SPLIT_SLOTS → IsSolitary w p.journal.past → HadRoom p.config p.journal.start p.journal.past on.between.opened → ⊥
  never-high laws wants solitary room = omega (arith, slotless solitary room laws, wants)
