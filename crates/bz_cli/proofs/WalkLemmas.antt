-- How `clap` walks over the words of `work`, one word at a time.
use Rattle.std.proofs.Common.{◌≡◌, ℕ, true, false, List, [], ◌∷◌, ◌++◌, refl, ap, sym, ◌∙◌, append_assoc, append-nil}
use Rattle.std.specs.Prelude.{Some, None, fold}
use Rattle.clap.specs.Walk.{Held, Names, Rule, Walk, idle, option, value, walked, arg_by_id, arg_by_index, to_positional, option_word}
use Rattle.clap.specs.Simple.{Shape}
use Rattle.clap.specs.Takes.{turn_passes, walk_passes, step_passes}
use Rattle.bz_cli.specs.CommandLine.{Text}
use Rattle.bz_cli.proofs.PlainLemmas.{IsPlain}

-- between two words, with nothing that waits
abbrev pub idle_at : Held → ℕ → Walk
idle_at h p = record { held = h; waiting = idle; position = p; is_trailing = false; stopped = None }

-- with an option that waits
abbrev pub waits_at : Held → ℕ → Text → Walk
waits_at h p id = record { held = h; waiting = option id; position = p; is_trailing = false; stopped = None }

module _ (s : Shape) where
  -- a plain word goes to the positional whose turn it is
  pub value_walked : (h : Held) (p : ℕ) (x : Text) → IsPlain x → walked s.rules [] (idle_at h p) x ≡ to_positional s.rules (arg_by_index s.rules p) x (idle_at h p) h
  unfolding walked
  value_walked h p x plain = rw (plain.no_dashes, plain.no_long, plain.no_short) refl

  pub value_passes : (h : Held) (p : ℕ) (x : Text) → IsPlain x → turn_passes s [] (idle_at h p) x ≡ step_passes s p h value
  value_passes h p x plain = rw (plain.no_dashes, plain.no_long, plain.no_short) refl

  -- or to the option that waits
  pub waited_walked : (h : Held) (p : ℕ) (id x : Text) → IsPlain x
      → walked s.rules [] (waits_at h p id) x ≡ record { held = (option_word (arg_by_id s.rules id) id x h).0; waiting = (option_word (arg_by_id s.rules id) id x h).1; position = p; is_trailing = false; stopped = None }
  unfolding walked
  waited_walked h p id x plain = rw (plain.no_dashes, plain.no_long, plain.no_short) refl

  pub waited_passes : (h : Held) (p : ℕ) (id x : Text) → IsPlain x → turn_passes s [] (waits_at h p id) x ≡ true
  waited_passes h p id x plain = rw (plain.no_dashes, plain.no_long, plain.no_short) refl

-- where a walk that has met a subcommand comes to
pub stopped_walked : (c : List Rule) (names : Names) (h : Held) (p : ℕ) (name : Text) (front ws : List Text)
    → fold (walked c names) (record { held = h; waiting = idle; position = p; is_trailing = false; stopped = Some (name, front) }) ws
    ≡ record { held = h; waiting = idle; position = p; is_trailing = false; stopped = Some (name, front ++ ws) }
unfolding walked
stopped_walked c names h p name front [] = ap (λ (ws : List Text). record { held = h; waiting = idle; position = p; is_trailing = false; stopped = Some (name, ws) }) (sym (append-nil front))
stopped_walked c names h p name front (w ∷ ws) =
    stopped_walked c names h p name (front ++ w ∷ []) ws
    ∙ ap (λ (ws : List Text). record { held = h; waiting = idle; position = p; is_trailing = false; stopped = Some (name, ws) }) (append_assoc front (w ∷ []) ws)

pub stopped_passes : (s : Shape) (names : Names) (h : Held) (p : ℕ) (name : Text) (front ws : List Text)
    → walk_passes s names (record { held = h; waiting = idle; position = p; is_trailing = false; stopped = Some (name, front) }) ws ≡ true
unfolding walk_passes walked
stopped_passes s names h p name front [] = refl
stopped_passes s names h p name front (w ∷ ws) = stopped_passes s names h p name (front ++ w ∷ []) ws
