-- What a worker awaits that is to fence a line is its own, and stays in the caches.
use Rattle.std.proofs.Common.{◌≡◌, ◌≢◌, ℕ, ◌≤◌, true, false, length, arith, sym, ap, subst, ◌∙◌, inl, inr}
use Rattle.std.proofs.lemmas.Bool.{cases_eq, true≢false}
use Rattle.bz_layout.specs.Addresses.{swap_address, line_of}
use Rattle.bz_layout.specs.declared.config.Config.{Config}
use Rattle.bz_layout.proofs.Laws.{slots_apart}
use Rattle.bz_mark.specs.Log.{Log}
use Rattle.bz_sight.specs.Awaiting.{IsToFence}
use Rattle.bz_sound.specs.Calls.{Open}
use Rattle.bz_swap_cells.specs.Store.{IsOutside}
use Rattle.bz_swap.specs.SwapMemory.{SwapMemory, Doing, Idle, Flushing, is_named, doing_of}
use Rattle.bz_task.specs.Scene.{IsMine}
use Rattle.bz_refinement.specs.Laws.{ActsKeepAwaited, IsStore, KeepsAwaited}
use Rattle.bz_refinement.specs.Living.{IsLiving, IsInBlock, IsInTaken, IsHeldBy}
use Rattle.bz_refinement.specs.Story.{Story, scene}

-- what is a worker's own it holds
pub of-mine : (c : Config) (log : Log) (story : Story) (w since : ℕ) (opened : Open) (a : ℕ) → IsMine (scene c log.past story w since opened) a → IsHeldBy c (story.at (length log.past)) story w a
of-mine c log story w since opened a mine = elim mine.own [
  | inl o ↦ inl (record { slot = o.slot; place = o.place; address = o.address; within = o.within; took = o.took; unreached = o.unreached })
  | inr r ↦ inr r
]

module _ (c : Config) (m : SwapMemory) (log : Log) (story : Story) (living : IsLiving c m log story) where
  -- what one holds lies outside the descriptors
  pub held-outside : (w a : ℕ) → IsHeldBy c (story.at (length log.past)) story w a → IsOutside m.swaps a
  held-outside w a (inl o) = inr (subst (λ n. swap_address n ≤ a) (sym living.seen.swaps) (omega (arith, o.address)))
  held-outside w a (inr r) = let block : IsInBlock c (story.at (length log.past)) a = living.reserved w a r in inr (subst (λ n. swap_address n ≤ a) (sym living.seen.swaps) (omega (arith, block.address)))

  -- no word of a slot that is not reached is reserved
  unreserved : (u w a : ℕ) → IsInTaken c (story.at (length log.past)) story u a → story.reserved w a ≡ true → ⊥
  unreserved u w a o r =
      let block : IsInBlock c (story.at (length log.past)) a = living.reserved w a r in
      let same : o.slot ≡ block.slot = (slots_apart c o.slot block.slot o.place block.place o.within block.within (sym o.address ∙ block.address)).0 in
      true≢false (sym block.reached ∙ (ap (story.at (length log.past)).reached (sym same) ∙ o.unreached))

  -- two workers hold nothing together
  pub held-apart : (w v a : ℕ) → w ≢ v → IsHeldBy c (story.at (length log.past)) story w a → IsHeldBy c (story.at (length log.past)) story v a → ⊥
  held-apart w v a ne (inl o) (inl p) =
      let same : o.slot ≡ p.slot = (slots_apart c o.slot p.slot o.place p.place o.within p.within (sym o.address ∙ p.address)).0 in
      ne (living.took_apart w v o.slot o.took (ap (story.took v) same ∙ p.took))
  held-apart w v a ne (inl o) (inr r) = unreserved w v a o r
  held-apart w v a ne (inr r) (inl o) = unreserved v w a o r
  held-apart w v a ne (inr r) (inr q) = ne (living.apart w v a r q)

-- who is idle is not to fence
pub idle-fences-nothing : (m : SwapMemory) (w a : ℕ) → doing_of m w ≡ Idle → IsToFence m w a → ⊥
idle-fences-nothing m w a idle at = let bad : Idle ≡ Flushing (line_of a) = sym idle ∙ at.doing in cc

store-keeps : (c : Config) (old new : SwapMemory) (log : Log) (story : Story) (w a v since : ℕ) (opened : Open) → IsLiving c old log story → IsStore c old new log story w a v since opened → doing_of new w ≡ Idle → KeepsAwaited c old new log story
store-keeps c old new log story w a v since opened living s idle u b held fence private = elim (cases_eq u w) [
  | inl same ↦ absurd (idle-fences-nothing new w b idle (subst (λ z. IsToFence new z b) same fence))
  | inr other ↦ s.stores.others b (λ is. held-apart c old log story living w u a (λ e. other (sym e)) (of-mine c log story w since opened a s.own.mine) (subst (IsHeldBy c (story.at (length log.past)) story u) is held))
]

pub acts-keep : ActsKeepAwaited
acts-keep = record {
  quiet = λ c old new log story living all w a held fence private. all a (held-outside c old log story living w a held) private;
  store = store-keeps;
}
