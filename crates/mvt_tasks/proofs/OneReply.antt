-- A task has one reply for each input: bytes are one tile, or have one fault.
use Rattle.std.proofs.Common.{◌≡◌, ℕ, ◌+◌, List, take, Option, Some, None, IsSome, false, true, inl, inr, refl, sym, ap, ◌∙◌}
use Rattle.mvt_base.specs.declared.TheConstants.{LIMIT}
use Rattle.mvt_mend.proofs.MendLaws.{tile_stays_bytes}
use Rattle.mvt_mend.specs.Tiles.{cause_in, changes_in, mended}
use Rattle.mvt_tile.proofs.TileLaws.{tile_or_fault_clean, tile_or_fault_once, tile_or_fault_there}
use Rattle.mvt_tile.specs.declared.fault.Fault.{Fault}
use Rattle.mvt_tile_value.specs.declared.tile.Tile.{Tile}
use Rattle.mvt_tile.specs.TileRules.{fault_within}
use Rattle.mvt_tile_value.specs.Tiles.{IsTile}
use Rattle.mvt_tasks.specs.declared.reply.Reply.{Reply}
use Rattle.mvt_tasks.specs.declared.task.Task.{Task}
use Rattle.mvt_tasks.specs.declared.task.Task.TheVariants.{Fields, Show, Draw, Check, Explain, Lint, Rewrite, Mend, Extract, Version}
use Rattle.mvt_tasks.specs.Output.{IsReply, IsJudged, IsMendReply, IsPrinted, mended_reply, fault_reply, fields_reply, bytes_reply, layers_reply, lint_reply, done, json_lines, svg_lines, check_lines, told_why, unmended_reply, version_line}

there_is : (of_tile : Tile → Reply) (of_fault : Fault → Reply) (input : List ℕ) (o : Option Fault) → fault_within LIMIT input ≡ o
    → (o ≡ None → (tile : Tile) × IsTile LIMIT input tile) → (reply : Reply) × IsJudged LIMIT of_tile of_fault input reply
there_is of_tile of_fault input None is there = let (tile, is_tile) = there refl in (of_tile tile, inl (tile, is_tile, refl))
there_is of_tile of_fault input (Some fault) is there = (of_fault fault, inr (fault, is, refl))

judged : (of_tile : Tile → Reply) (of_fault : Fault → Reply) (input : List ℕ)
    → (reply : Reply) × IsJudged LIMIT of_tile of_fault input reply
judged of_tile of_fault input = there_is of_tile of_fault input (fault_within LIMIT input) refl (tile_or_fault_there input)

printed : (of_tile : Tile → Reply) (input : List ℕ) → (reply : Reply) × IsPrinted LIMIT of_tile input reply
printed of_tile input = judged of_tile fault_reply input

-- a tile mended, or the fault of the bytes as they stand
mend_reply_by : (input : List ℕ) (now : Option Fault) → fault_within LIMIT input ≡ now → (o : Option Fault)
    → fault_within LIMIT (mended input) ≡ o → (reply : Reply) × IsMendReply LIMIT input reply
mend_reply_by input now now_is None clean =
    let (tile, is_tile) = tile_or_fault_there (mended input) clean in
    (mended_reply LIMIT (changes_in input) tile, inl (tile, is_tile, refl))
mend_reply_by input (Some fault) now_is (Some broken) is = (unmended_reply (cause_in input) fault, inr (fault, now_is, rw is refl, refl))
mend_reply_by input None now_is (Some broken) is =
    let (tile, is_tile) = tile_or_fault_there input now_is in
    let e : Some broken ≡ None = sym is ∙ ap (fault_within LIMIT) (tile_stays_bytes input tile is_tile) ∙ now_is in cc

mend_reply : (input : List ℕ) → (reply : Reply) × IsMendReply LIMIT input reply
mend_reply input = mend_reply_by input (fault_within LIMIT input) refl (fault_within LIMIT (mended input)) refl

broken_once : (input : List ℕ) (tile : Tile) → IsTile LIMIT (mended input) tile → IsSome (fault_within LIMIT (mended input)) → ⊥
broken_once input tile is broken =
    let e : false ≡ true = rw (tile_or_fault_clean (mended input) tile is) at broken in cc

mended_once : (input : List ℕ) (a b : Reply) → IsMendReply LIMIT input a → IsMendReply LIMIT input b → a ≡ b
mended_once input a b (inl (s, is_s, a_is)) (inl (t, is_t, b_is)) =
    a_is ∙ ap (mended_reply LIMIT (changes_in input)) (tile_or_fault_once (mended input) s t is_s is_t) ∙ sym b_is
mended_once input a b (inl (s, is_s, a_is)) (inr (f, is_f, broken, b_is)) = elim (broken_once input s is_s broken) [ ]
mended_once input a b (inr (f, is_f, broken, a_is)) (inl (t, is_t, b_is)) = elim (broken_once input t is_t broken) [ ]
mended_once input a b (inr (f, is_f, f_broken, a_is)) (inr (g, is_g, g_broken, b_is)) =
    let e : Some f ≡ Some g = sym is_f ∙ is_g in
    let same : f ≡ g = cc in
    a_is ∙ ap (unmended_reply (cause_in input)) same ∙ sym b_is

pub has_reply : (task : Task) (input : List ℕ) → (reply : Reply) × IsReply LIMIT task input reply
has_reply Fields input = (fields_reply LIMIT input, refl)
has_reply Show input = printed (λ tile. done (json_lines tile)) input
has_reply Draw input = printed (λ tile. done (svg_lines tile)) input
has_reply Check input = printed (λ tile. done (check_lines input tile)) input
has_reply Explain input = judged (λ tile. done (check_lines input tile)) (told_why LIMIT (take (LIMIT + 1) input)) input
has_reply Lint input = printed lint_reply input
has_reply Rewrite input = printed (bytes_reply LIMIT) input
has_reply Mend input = mend_reply input
has_reply (Extract names) input = printed (layers_reply LIMIT names) input
has_reply Version input = (done version_line, refl)

judged_once : (of_tile : Tile → Reply) (of_fault : Fault → Reply) (input : List ℕ) (a b : Reply) → IsJudged LIMIT of_tile of_fault input a
    → IsJudged LIMIT of_tile of_fault input b → a ≡ b
judged_once of_tile of_fault input a b (inl (s, is_s, a_is)) (inl (t, is_t, b_is)) =
    a_is ∙ ap of_tile (tile_or_fault_once input s t is_s is_t) ∙ sym b_is
judged_once of_tile of_fault input a b (inl (s, is_s, a_is)) (inr (f, is_f, b_is)) =
    let e : None ≡ Some f = sym (tile_or_fault_clean input s is_s) ∙ is_f in cc
judged_once of_tile of_fault input a b (inr (f, is_f, a_is)) (inl (t, is_t, b_is)) =
    let e : None ≡ Some f = sym (tile_or_fault_clean input t is_t) ∙ is_f in cc
judged_once of_tile of_fault input a b (inr (f, is_f, a_is)) (inr (g, is_g, b_is)) =
    let e : Some f ≡ Some g = sym is_f ∙ is_g in
    let same : f ≡ g = cc in
    a_is ∙ ap of_fault same ∙ sym b_is

printed_once : (of_tile : Tile → Reply) (input : List ℕ) (a b : Reply) → IsPrinted LIMIT of_tile input a → IsPrinted LIMIT of_tile input b
    → a ≡ b
printed_once of_tile input a b a_is b_is = judged_once of_tile fault_reply input a b a_is b_is

pub has_one_reply : (task : Task) (input : List ℕ) (a b : Reply) → IsReply LIMIT task input a → IsReply LIMIT task input b → a ≡ b
has_one_reply Fields input a b a_is b_is = a_is ∙ sym b_is
has_one_reply Show input a b a_is b_is = printed_once (λ tile. done (json_lines tile)) input a b a_is b_is
has_one_reply Draw input a b a_is b_is = printed_once (λ tile. done (svg_lines tile)) input a b a_is b_is
has_one_reply Check input a b a_is b_is = printed_once (λ tile. done (check_lines input tile)) input a b a_is b_is
has_one_reply Explain input a b a_is b_is =
    judged_once (λ tile. done (check_lines input tile)) (told_why LIMIT (take (LIMIT + 1) input)) input a b a_is b_is
has_one_reply Lint input a b a_is b_is = printed_once lint_reply input a b a_is b_is
has_one_reply Rewrite input a b a_is b_is = printed_once (bytes_reply LIMIT) input a b a_is b_is
has_one_reply Mend input a b a_is b_is = mended_once input a b a_is b_is
has_one_reply (Extract names) input a b a_is b_is = printed_once (layers_reply LIMIT names) input a b a_is b_is
has_one_reply Version input a b a_is b_is = a_is ∙ sym b_is
