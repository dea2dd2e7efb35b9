-- The set of names beside the items.
use Rattle.std.proofs.Common.{◌≡◌, ℕ, ◌+◌, ◌≤◌, Bool, true, false, not, ◌||◌, List, [], ◌∷◌, ◌++◌, length, take, bytes_eq, refl, sym, ap, ap₂, subst, ◌∙◌, arith, length-append}
use Rattle.std.specs.List.{list_any, flat_map}
use Rattle.std.proofs.lemmas.Bool.{not-false, not-true}
use Rattle.std.proofs.lemmas.List.{take_all}
use Rattle.std.proofs.lemmas.List.Folds.{list_any-append}
use Rattle.mvt_base.proofs.ListLemmas.{all_joined}
use Rattle.mvt_base.proofs.RuleLemmas.{first-when}
use Rattle.mvt_message.specs.declared.item.Item.{Item}
use Rattle.mvt_message.specs.Items.{names_in}
use Rattle.mvt_message.specs.ValidItems.{ValidItem}
use Rattle.mvt_tile.specs.declared.fault.DecodeError.TheVariants.{Fault}
use Rattle.mvt_tile.specs.Inner.Judging.{AreKept, AreNamed, name_fault, repeated_at}
use Rattle.mvt_tile.specs.Streams.{ReportsEarly}
use Rattle.mvt_tile.specs.TileRules.{repeats}
use Rattle.mvt_tile.proofs.NameLemmas.{distinct_more, names_more}

repeats_by : (names others given : List (List ℕ)) → ((n : List ℕ) → list_any (bytes_eq n) names ≡ list_any (bytes_eq n) others)
    → repeats names given ≡ repeats others given
repeats_by names others [] same = refl
repeats_by names others (n ∷ given) same = ap₂ (λ a b. a || b) (same n) (repeats_by names others given same)

module _ (count : ℕ) (names given : List (List ℕ)) (items : List Item) (added : Bool)
    (are : AreNamed count names items) (is : added ≡ not (repeats names given)) where
  same : repeats names given ≡ repeats (flat_map names_in items) given
  same = repeats_by names (flat_map names_in items) given are.named

  -- the name of one item more is new
  pub name_new : (after : List (List ℕ)) (item : Item) → names_in item ≡ given → added ≡ true
      → ((n : List ℕ) → list_any (bytes_eq n) after ≡ (list_any (bytes_eq n) names || list_any (bytes_eq n) given))
      → AreNamed (count + 1) after (items ++ item ∷ []) × (repeats (flat_map names_in items) (names_in item) ≡ false)
  name_new after item named new more = (
    record {
      counted = omega (arith, are.counted, length-append items (item ∷ []));
      named = λ n. more n ∙ ap₂ (λ a b. a || b) (are.named n) (ap (list_any (bytes_eq n)) (sym named))
          ∙ sym
          (ap (list_any (bytes_eq n)) (names_more items item) ∙ list_any-append (bytes_eq n) (flat_map names_in items) (names_in item));
    },
    ap (repeats (flat_map names_in items)) named ∙ sym same ∙ not-true (repeats names given) (sym is ∙ new),
  )

  -- an item has it
  pub name_there : added ≡ false → repeats (flat_map names_in items) given ≡ true
  name_there no_more = sym same ∙ not-false (repeats names given) (sym is ∙ no_more)

  pub name_again : (at : ℕ) → added ≡ false
      → ReportsEarly (Fault (repeated_at count at)) (name_fault (length items) (flat_map names_in items) given at)
  name_again at no_more =
      subst (λ n. ReportsEarly (Fault (repeated_at n at)) (name_fault (length items) (flat_map names_in items) given at)) (sym are.counted)
      (first-when (repeats (flat_map names_in items) given) (repeated_at (length items) at) (name_there no_more), refl)

-- items that are valid too

pub kept_named : (count : ℕ) (names : List (List ℕ)) (items : List Item) → AreKept names items → count ≡ length items
    → AreNamed count names items
kept_named count names items kept counted = record { counted = counted; named = kept.named }

pub kept_more : (count : ℕ) (names after : List (List ℕ)) (items longer : List Item) (item : Item) → AreKept names items → ValidItem item
    → longer ≡ items ++ item ∷ [] → AreNamed count after (items ++ item ∷ []) × (repeats (flat_map names_in items) (names_in item) ≡ false)
    → AreKept after longer
kept_more count names after items longer item kept valid is new =
    subst (AreKept after) (sym is)
    (record {
      named = new.0.named;
      valid = all_joined ValidItem items (item ∷ []) kept.valid (valid, tt);
      distinct = distinct_more items item kept.distinct new.1;
    })

pub kept_all : (names : List (List ℕ)) (items : List Item) (i : ℕ) → length items ≤ i → AreKept names (take i items) → AreKept names items
kept_all names items i past kept = subst (AreKept names) (take_all i items past) kept
