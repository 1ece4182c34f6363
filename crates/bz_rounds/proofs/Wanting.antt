-- A leaf that lacked the words when it was looked at lacks them now, while nobody's swap takes effect.
use Rattle.std.proofs.Common.{ℕ, ◌+◌, ◌<◌, List, refl, sym, subst}
use Rattle.bz_layout.specs.declared.sizes.TheConstants.{STATUS_AT, SHARED_WORDS}
use Rattle.bz_content.specs.Content.{image_of}
use Rattle.bz_stage.specs.FromLeaves.Neighbours.{leaf_page}
use Rattle.bz_task.specs.Instant.{words}
use Rattle.bz_task.specs.Scene.{Scene, IsScene, here}
use Rattle.bz_stage.specs.Rooms.{words_taken}
use Rattle.bz_undisturbed.specs.Undisturbed.{IsUndisturbed}
use Rattle.bz_undisturbed.specs.FromRunning.MadeFor.{LackedWords}
use Rattle.bz_rounds.proofs.Seeing.{taken-now}

pub lacks-now : (s : Scene) → IsScene s → IsUndisturbed 0 s.past → (key : List ℕ) (need k : ℕ) → LackedWords key need k s.past → SHARED_WORDS < words_taken (leaf_page s.past.config (image_of (here s).image) key) + need
lacks-now s good alone key need k l =
    subst (λ n. SHARED_WORDS < n + need) (sym (taken-now s good alone key k (words s.past.config (s.past.at l.was.moment) k STATUS_AT) (record { was = l.was; within = l.within; status = refl }))) l.lacked
