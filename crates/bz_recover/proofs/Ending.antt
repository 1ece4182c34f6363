-- What a walk asks for, and how it ends.
use Rattle.std.proofs.Common.{◌≡◌, ◌↔◌, ℕ, ◌+◌, ◌<◌, false, List, [], Contains, arith, sym, ◌∙◌, inl, subst, append-nil, Option}
use Rattle.std.specs.Prelude.{Some, None}
use Rattle.bz_content.specs.Content.{view_in}
use Rattle.bz_layout.proofs.Laws.{addresses_fit, descriptors_stand_apart}
use Rattle.bz_layout.specs.Addresses.{node_address}
use Rattle.bz_layout.specs.Config.{IsConfig}
use Rattle.bz_layout.specs.Slots.{FreeSlots}
use Rattle.bz_layout.specs.declared.config.Config.{Config}
use Rattle.bz_layout.specs.declared.sizes.TheConstants.{NODE_WORDS, HEADER_AT, STATUS_AT, META_AT}
use Rattle.bz_tree.specs.Stack.{pending}
use Rattle.bz_tree.specs.Walk.{Visit, walk, comes_to}
use Rattle.bz_task.specs.declared.todo.Outcome.TheVariants.{Recovered}
use Rattle.bz_task.specs.declared.todo.Todo.{Todo}
use Rattle.bz_recover.specs.Sweep.{IsShared}
use Rattle.bz_recover.specs.Walking.{IsBetween, IsStep, IsLoadOrEnd, AreReached, goes_in, loads_in, end_in_walk}
use Rattle.bz_recover.specs.declared.walk.Step.{Step}
use Rattle.bz_recover.specs.declared.walk.Step.TheVariants.{Fresh, Root, Header, Status, Meta, Pointer, Done}
use Rattle.bz_recover.specs.declared.walk.Way.{Way}

-- a word of a slot is none of a descriptor
in-slot : (c : Config) (slot i : ℕ) → IsConfig c → slot < c.nodes → i < NODE_WORDS → IsShared c (node_address c slot + i)
in-slot c slot i fine there inside = record {
  within = (addresses_fit c fine).node_words slot i there inside;
  outside = (descriptors_stand_apart c).slot slot i;
}

-- what is asked for, if anything is
abbrev Asks : Config → Option Todo → Type 0
Asks c None = Unit {0}
Asks c (Some todo) = IsLoadOrEnd c todo

asks : (c : Config) (top : ℕ) (step : Step) → IsConfig c → IsStep c top step → Asks c (loads_in c step)
asks c top Fresh fine s = tt
asks c top Root fine s = record { within = omega arith; outside = inl (omega arith) }
asks c top (Header slot) fine s = in-slot c slot HEADER_AT fine s (omega arith)
asks c top (Status l slot) fine s = in-slot c slot STATUS_AT fine s.1 (omega arith)
asks c top (Meta l way) fine s = in-slot c way.slot (META_AT + way.next) fine s.1.slot (omega (arith, s.1.count, s.2))
asks c top (Pointer l way place) fine s = in-slot c way.slot place fine s.1.slot s.3
asks c top Done fine s = tt

pub loads : (c : Config) (top : ℕ) (step : Step) (todo : Todo) → IsConfig c → IsStep c top step → loads_in c step ≡ Some todo → IsLoadOrEnd c todo
loads c top step todo fine s e = subst (Asks c) e (asks c top step fine s)

-- nothing is to come
pub ends : (c : Config) (image : ℕ → ℕ) (top : ℕ) (ways : List Way) (free : List ℕ) (step : Step) → end_in_walk step ≡ Some Recovered → goes_in c image top ways free step → IsBetween (view_in c image) [] free
ends c image top ways free Fresh e g = absurd (cc)
ends c image top ways free Root e g = absurd (cc)
ends c image top ways free (Header slot) e g = absurd (cc)
ends c image top ways free (Status l slot) e g = absurd (cc)
ends c image top ways free (Meta l way) e g = absurd (cc)
ends c image top ways free (Pointer l way place) e g = absurd (cc)
ends c image top ways free Done e g = g

-- so exactly the slots of the tree are held
pub reached : (c : Config) (image : ℕ → ℕ) (slots : FreeSlots) → slots.nodes ≡ c.nodes → IsBetween (view_in c image) [] slots.free → AreReached c image slots
unfolding pending
reached c image slots n b =
    let all : walk (view_in c image) ≡ b.behind = b.whole ∙ append-nil b.behind in
    record { nodes = n; free = λ k l. subst (λ (us : List Visit). Contains slots.free k ↔ (comes_to us k ≡ false)) (sym all) (b.slots k l) }
