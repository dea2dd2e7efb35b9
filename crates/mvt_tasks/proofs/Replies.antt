-- A reply that was put out answers its input.
use Rattle.std.proofs.Common.{◌≡◌, ℕ, ◌<◌, ◌≤◌, Bool, true, false, nat_lt, List, length, slice_get, Option, Some, None, Result, Ok, Err, IfErr, inl, refl, sym, subst, ap, ◌∙◌, arith, codes, if◌then◌else◌}
use Rattle.std.specs.Prelude.{IfSome, is_err}
use Rattle.std.specs.declared.io.ErrorKind.{ErrorKind}
use Rattle.std.specs.Option.{option_map}
use Rattle.std.proofs.lemmas.Bool.Decides.{nat_tests}
use Rattle.std.proofs.lemmas.Option.{IfSome_then}
use Rattle.mvt_io.specs.Counts.{counted}
use Rattle.mvt_io.specs.States.{Faults, NoneFailed, after_call, failed}
use Rattle.mvt_tile_value.specs.declared.tile.Tile.{Tile}
use Rattle.mvt_tile_value.specs.CanonicalTiles.{canonical}
use Rattle.mvt_tile_value.specs.Tiles.{IsTile}
use Rattle.mvt_tile_value.specs.ValidTiles.{Valid}
use Rattle.mvt_tile.specs.Extraction.{pick, first_missing}
use Rattle.mvt_tasks.specs.declared.failure.Failure.{Failure}
use Rattle.mvt_tasks.specs.declared.failure.Failure.TheVariants.{Write}
use Rattle.mvt_tasks.specs.declared.reply.Reply.{Reply}
use Rattle.mvt_tasks.specs.Failures.{EndsFailed, FailsWriting}
use Rattle.mvt_tasks.specs.Output.{IsPrinted, done, refused, bytes_reply, layers_reply, layers_reply_or, missing_line}
use Rattle.mvt_tasks.proofs.Picks.{missing_at, none_missing}

pub small_reply : (limit : ℕ) (tile : Tile) → length (canonical tile) ≤ limit → bytes_reply limit tile ≡ done (canonical tile)
unfolding bytes_reply
small_reply limit tile small =
    ap (λ (b : Bool). if b then refused (codes "mvt: result larger than 67108864 bytes\n") else done (canonical tile))
    (let e : nat_lt limit (length (canonical tile)) ≡ false = grind (arith, nat_tests) in e)

pub large_reply : (limit : ℕ) (tile : Tile) → limit < length (canonical tile)
    → bytes_reply limit tile ≡ refused (codes "mvt: result larger than 67108864 bytes\n")
unfolding bytes_reply
large_reply limit tile large =
    ap (λ (b : Bool). if b then refused (codes "mvt: result larger than 67108864 bytes\n") else done (canonical tile))
    (let e : nat_lt limit (length (canonical tile)) ≡ true = grind (arith, nat_tests) in e)

pub picked_reply : (limit : ℕ) (tile picked : Tile) (names : List (List ℕ)) → first_missing tile names ≡ None → picked ≡ pick tile names
    → layers_reply limit names tile ≡ bytes_reply limit picked
picked_reply limit tile picked names none is =
    ap (λ o. layers_reply_or o (bytes_reply limit (pick tile names))) (none_missing tile names none) ∙ ap (bytes_reply limit) (sym is)

missing_or : (o : Option (List ℕ)) (line : List ℕ) (reply : Reply) → Some line ≡ option_map missing_line o
    → layers_reply_or o reply ≡ refused line
missing_or None line reply is = cc
missing_or (Some name) line reply is = ap refused (let e : missing_line name ≡ line = cc in e)

pub missing_reply : (limit : ℕ) (tile : Tile) (names : List (List ℕ)) (i : ℕ) (line : List ℕ) → first_missing tile names ≡ Some i
    → Some line ≡ option_map missing_line (slice_get names i) → layers_reply limit names tile ≡ refused line
missing_reply limit tile names i line first is =
    ap (λ o. layers_reply_or o (bytes_reply limit (pick tile names))) ((missing_at tile names i first).1)
    ∙ missing_or (slice_get names i) line (bytes_reply limit (pick tile names)) is

-- the reply for the named layers of a tile

module _ (limit : ℕ) (tile : Tile) (names : List (List ℕ)) where
  pub extracted_bytes : (bytes made : List ℕ) → made ≡ bytes
      → (first_missing tile names ≡ None) × (bytes ≡ canonical (pick tile names)) × (length (canonical (pick tile names)) ≤ limit)
      → done made ≡ layers_reply limit names tile
  extracted_bytes bytes made same (none, is, small) =
      ap done (same ∙ is) ∙ sym (picked_reply limit tile (pick tile names) names none refl ∙ small_reply limit (pick tile names) small)

  pub extracted_large : (line : List ℕ) → line ≡ codes "mvt: result larger than 67108864 bytes\n"
      → (first_missing tile names ≡ None) × (limit < length (canonical (pick tile names))) → refused line ≡ layers_reply limit names tile
  extracted_large line is (none, large) =
      ap refused is ∙ sym (picked_reply limit tile (pick tile names) names none refl ∙ large_reply limit (pick tile names) large)

pub layers_printed : (limit : ℕ) (left : Option (List ℕ)) (names shown : List (List ℕ)) (tile : Tile) (reply : Reply) → shown ≡ names
    → reply ≡ layers_reply limit shown tile → IfSome left (λ input. IsTile limit input tile)
    → IfSome left (λ input. IsPrinted limit (layers_reply limit names) input reply)
layers_printed limit left names shown tile reply same is there =
    IfSome_then left there (λ input is_tile. inl (tile, is_tile, is ∙ ap (λ ns. layers_reply limit ns tile) same))

-- the canonical bytes of a tile, or that they are more than the limit

module _ (limit : ℕ) (left : Option (List ℕ)) (tile : Tile) (there : IfSome left (λ input. IsTile limit input tile × Valid tile)) where
  pub rewritten : (bytes made : List ℕ) → made ≡ bytes → (bytes ≡ canonical tile) × (length (canonical tile) ≤ limit)
      → IfSome left (λ input. IsPrinted limit (bytes_reply limit) input (done made))
  rewritten bytes made same (is, small) =
      IfSome_then left there (λ input both. inl (tile, both.0, ap done (same ∙ is) ∙ sym (small_reply limit tile small)))

  pub not_rewritten : (line : List ℕ) → line ≡ codes "mvt: result larger than 67108864 bytes\n" → limit < length (canonical tile)
      → IfSome left (λ input. IsPrinted limit (bytes_reply limit) input (refused line))
  not_rewritten line is large =
      IfSome_then left there (λ input both. inl (tile, both.0, ap refused is ∙ sym (large_reply limit tile large)))

-- the output, where its flush failed

ends_failed : (a b c : Faults) (kind : ErrorKind) → NoneFailed a b → c ≡ failed kind b → EndsFailed a c
ends_failed a b c kind none is = (
  kind,
  record {
    once = ap (λ (f : Faults). f.count) is
        ∙ ap counted none;
    reported = ap (λ (f : Faults). f.last) is;
    ended = ap (λ (f : Faults). f.ended) is;
  },
)

module _ {T U : Type 0} (s : Result T Failure) (r : Result U ErrorKind) (a b c : Faults) where
  pub fails_flushing : IfErr s (λ failure. failure ≡ Write) → is_err s ≡ is_err r → NoneFailed a b → c ≡ after_call r b
      → IfErr s (FailsWriting a c)
  fails_flushing is same none after = of s r is same after
    where
      of : (s : Result T Failure) (r : Result U ErrorKind) → IfErr s (λ failure. failure ≡ Write) → is_err s ≡ is_err r → c ≡ after_call r b
          → IfErr s (FailsWriting a c)
      of (Ok x) r is same after = tt
      of (Err f) (Ok u) is same after = cc
      of (Err f) (Err kind) is same after = subst (FailsWriting a c) (sym is) (ends_failed a b c kind none after)

pub is_writing : {T : Type 0} (s : Result T Failure) (a c : Faults) → IfErr s (λ failure. failure ≡ Write) → IfErr s (FailsWriting a c)
    → IfErr s (λ failure. (failure ≡ Write) × EndsFailed a c)
is_writing (Ok x) a c is fails = tt
is_writing (Err f) a c is fails = (is, subst (FailsWriting a c) is fails)
