-- The layer in which the first fault of a tile stands is there.
use Rattle.std.proofs.Common.{◌≡◌, ℕ, Bool, true, false, eqb, ltb, List, [], ◌∷◌, ◌++◌, length, take, Option, Some, None, refl, sym, ap, ◌∙◌, subst, append_assoc, append-nil, if◌then◌else◌}
use Rattle.std.specs.List.{AllByRecursion}
use Rattle.std.specs.Prelude.{IfSome}
use Rattle.std.specs.Option.{option_or, option_map}
use Rattle.std.proofs.lemmas.Bool.{eqb-true, ltb-true, ltb-false}
use Rattle.std.proofs.lemmas.List.{take_all}
use Rattle.std.proofs.lemmas.Option.{none-some, same_Some}
use Rattle.mvt_base.specs.Rules.{each, first, when}
use Rattle.mvt_base.proofs.ListLemmas.{all_joined}
use Rattle.mvt_base.proofs.RuleLemmas.{each_first, option_or-none, option_or-some}
use Rattle.mvt_wire.specs.Field.{Content, varint, fixed64, bytes, fixed32, Entry}
use Rattle.mvt_wire.specs.Split.{split}
use Rattle.mvt_feature.specs.Faults.{MessageFault}
use Rattle.mvt_feature.specs.declared.cause.Cause.TheVariants.{TooLarge, WrongType}
use Rattle.mvt_message.specs.ItemRules.{item_fault, payload_names}
use Rattle.mvt_tile_value.specs.declared.numbers.tile.TheConstants.{LAYERS}
use Rattle.mvt_tile_value.specs.Tiles.{layers_of}
use Rattle.mvt_tile.specs.declared.fault.Fault.{Fault}
use Rattle.mvt_tile.specs.FaultPlaces.{StandsIn}
use Rattle.mvt_tile.specs.Faults.{in_layer, is_open, outer_fault}
use Rattle.mvt_tile.specs.Inner.Judging.{repeated_at}
use Rattle.mvt_tile.specs.TileRules.{beyond, fault_within, field_rules, is_bytes, names_before, repeats, rest_rules, rest_rules_at, tile_rules}
use Rattle.mvt_tile.proofs.LayerLemmas.{field_other, first-layer, first-wrong, layers_of-append, layers_of-layer, layers_of-other}
use Rattle.mvt_tile.proofs.TileLemmas.{fault_of_long, fault_of_short, first-tile}

abbrev AreBytes : List Entry → Type 0
AreBytes fields = AllByRecursion (λ (e : Entry). is_bytes e.content ≡ true) fields

-- what is known of a first fault that a layer of this index tells
module _ (fault : Fault) (n : ℕ) (at : fault.layer ≡ Some n) where
  not_outer : (o : Option Fault) → IfSome o (λ (f : Fault). f.layer ≡ None) → o ≡ Some fault → ⊥
  not_outer None outer is = cc
  not_outer (Some f) outer is = none-some n (sym outer ∙ ap (λ (g : Fault). g.layer) (same_Some f fault is) ∙ at)

  others_stay : (front : List Entry) (x : Entry) → eqb x.number LAYERS ≡ false → AreBytes (layers_of front)
      → AreBytes (layers_of (front ++ x ∷ []))
  others_stay front x e forms =
      subst AreBytes
      (sym (layers_of-append front (x ∷ []) ∙ ap (λ l. layers_of front ++ l) (layers_of-other x [] e) ∙ append-nil (layers_of front))) forms

  layer_joins : (front : List Entry) (x : Entry) → eqb x.number LAYERS ≡ true → is_bytes x.content ≡ true → AreBytes (layers_of front)
      → AreBytes (layers_of (front ++ x ∷ []))
  layer_joins front x e is forms =
      subst AreBytes (sym (layers_of-append front (x ∷ []) ∙ ap (λ l. layers_of front ++ l) (layers_of-layer x [] e)))
      (all_joined (λ (y : Entry). is_bytes y.content ≡ true) (layers_of front) (x ∷ []) forms (is, tt))

  -- the fault is that of this layer's payload, or of its name
  told : (front : List Entry) (x : Entry) (back : List Entry) (d : List ℕ) → AreBytes (layers_of front) → eqb x.number LAYERS ≡ true
      → x.content ≡ bytes d
      → (o : Option MessageFault) → item_fault d x.body x.at ≡ o → (b : Bool)
      → option_or (option_map (in_layer (length (layers_of front))) o) (first (when b (repeated_at (length (layers_of front)) x.at))) ≡ Some fault
      → StandsIn (front ++ x ∷ back) n fault
  told front x back d forms e holds (Some inner) is b h =
      let same : in_layer (length (layers_of front)) inner ≡ fault = same_Some _ _ h in
      record {
        front = front;
        x = x;
        back = back;
        of_fields = refl;
        index = same_Some _ _ (ap (λ (g : Fault). g.layer) same ∙ at);
        forms = forms;
        is_layer = eqb-true x.number LAYERS e;
        content = d;
        holds = holds;
        inside = λ j feature. (inner, is, ap (λ (g : Fault). g.feature) same ∙ feature);
      }
  told front x back d forms e holds None is true h =
      let same : repeated_at (length (layers_of front)) x.at ≡ fault = same_Some _ _ h in
      record {
        front = front;
        x = x;
        back = back;
        of_fields = refl;
        index = same_Some _ _ (ap (λ (g : Fault). g.layer) same ∙ at);
        forms = forms;
        is_layer = eqb-true x.number LAYERS e;
        content = d;
        holds = holds;
        inside = λ j feature. absurd (none-some j (ap (λ (g : Fault). g.feature) same ∙ feature));
      }
  told front x back d forms e holds None is false h = cc

  not_bytes : (front : List Entry) (x : Entry) (later : Option Fault) → eqb x.number LAYERS ≡ true → is_bytes x.content ≡ false
      → option_or (first (field_rules front x)) later ≡ Some fault → ⊥
  not_bytes front x later e other h =
      let wrong = first-wrong front x e other in
      not_outer (Some (outer_fault x.at WrongType)) refl (sym (option_or-some _ later _ wrong) ∙ h)

  abbrev Later : List Entry → List Entry → Type 0
  Later front xs = AreBytes (layers_of front) → first (each field_rules front xs) ≡ Some fault → StandsIn (front ++ xs) n fault

  -- a field that holds bytes: the fault is its own, or stands later
  of_layer : (front : List Entry) (x : Entry) (xs : List Entry) (d : List ℕ) → AreBytes (layers_of front) → eqb x.number LAYERS ≡ true
      → x.content ≡ bytes d
      → option_or (first (field_rules front x)) (first (each field_rules (front ++ x ∷ []) xs)) ≡ Some fault → Later (front ++ x ∷ []) xs
      → StandsIn (front ++ x ∷ xs) n fault
  of_layer front x xs d forms e holds chain later = by_own (first (field_rules front x)) refl
    where
      by_own : (o : Option Fault) → first (field_rules front x) ≡ o → StandsIn (front ++ x ∷ xs) n fault
      by_own (Some f) own =
          let same = sym own ∙ first-layer front x d e holds in
          told front x xs d forms e holds (item_fault d x.body x.at) refl (repeats (names_before front) (payload_names d))
          (sym same ∙ sym (option_or-some _ (first (each field_rules (front ++ x ∷ []) xs)) f own) ∙ chain)
      by_own None own =
          subst (λ l. StandsIn l n fault) (append_assoc front (x ∷ []) xs)
          (later (layer_joins front x e (ap is_bytes holds) forms) (sym (option_or-none _ _ own) ∙ chain))

  of_field : (front : List Entry) (x : Entry) (xs : List Entry) (c : Content) → AreBytes (layers_of front) → eqb x.number LAYERS ≡ true
      → x.content ≡ c
      → option_or (first (field_rules front x)) (first (each field_rules (front ++ x ∷ []) xs)) ≡ Some fault → Later (front ++ x ∷ []) xs
      → StandsIn (front ++ x ∷ xs) n fault
  of_field front x xs (varint k) forms e holds chain later = absurd (not_bytes front x _ e (ap is_bytes holds) chain)
  of_field front x xs (fixed64 k) forms e holds chain later = absurd (not_bytes front x _ e (ap is_bytes holds) chain)
  of_field front x xs (bytes d) forms e holds chain later = of_layer front x xs d forms e holds chain later
  of_field front x xs (fixed32 k) forms e holds chain later = absurd (not_bytes front x _ e (ap is_bytes holds) chain)

  of_any : (front : List Entry) (x : Entry) (xs : List Entry) (b : Bool) → eqb x.number LAYERS ≡ b → AreBytes (layers_of front)
      → option_or (first (field_rules front x)) (first (each field_rules (front ++ x ∷ []) xs)) ≡ Some fault → Later (front ++ x ∷ []) xs
      → StandsIn (front ++ x ∷ xs) n fault
  of_any front x xs true e forms chain later = of_field front x xs x.content forms e refl chain later
  of_any front x xs false e forms chain later =
      subst (λ l. StandsIn l n fault) (append_assoc front (x ∷ []) xs)
      (later (others_stay front x e forms) (sym (option_or-none _ _ (ap first (field_other front x e))) ∙ chain))

  in_fields : (xs front : List Entry) → Later front xs
  in_fields [] front forms is = cc
  in_fields (x ∷ xs) front forms is =
      of_any front x xs (eqb x.number LAYERS) refl forms (sym (each_first field_rules front x xs) ∙ is) (in_fields xs (front ++ x ∷ []))

  rest_outer : (at : ℕ) (rest : List ℕ) → IfSome (first (rest_rules_at at rest)) (λ (f : Fault). f.layer ≡ None)
  rest_outer at [] = tt
  rest_outer at (b ∷ bs) = refl

  in_tile : (b : List ℕ) → first (tile_rules b) ≡ Some fault → StandsIn (split b).fields n fault
  in_tile b is = by_fields (first (each field_rules [] (split b).fields)) refl
    where
      chain : option_or (first (each field_rules [] (split b).fields)) (first (rest_rules (split b))) ≡ Some fault
      chain = sym (first-tile b) ∙ is

      by_fields : (o : Option Fault) → first (each field_rules [] (split b).fields) ≡ o → StandsIn (split b).fields n fault
      by_fields (Some f) own =
          in_fields (split b).fields [] tt (own ∙ sym (option_or-some _ (first (rest_rules (split b))) f own) ∙ chain)
      by_fields None own =
          absurd (not_outer (first (rest_rules (split b))) (rest_outer (split b).rest_at (split b).rest) (sym (option_or-none _ _ own) ∙ chain))

  -- beyond the limit
  cut : (limit : ℕ) (o : Option Fault) → beyond limit o ≡ Some fault → o ≡ Some fault
  cut limit None h = absurd (not_outer (beyond limit None) refl h)
  cut limit (Some f) h = by_open (is_open f) h
    where
      by_open : (b : Bool) → Some (if b then outer_fault f.at TooLarge else f) ≡ Some fault → Some f ≡ Some fault
      by_open true is = absurd (not_outer (Some (outer_fault f.at TooLarge)) refl is)
      by_open false is = is

  pub layer_there : (limit : ℕ) (input : List ℕ) → fault_within limit input ≡ Some fault → StandsIn (split (take limit input)).fields n fault
  layer_there limit input is = by_length (ltb limit (length input)) refl
    where
      by_length : (b : Bool) → ltb limit (length input) ≡ b → StandsIn (split (take limit input)).fields n fault
      by_length true long =
          in_tile (take limit input)
          (cut limit (first (tile_rules (take limit input))) (sym (fault_of_long limit input (ltb-true limit (length input) long)) ∙ is))
      by_length false short =
          let few = ltb-false limit (length input) short in
          subst (λ b. StandsIn (split b).fields n fault) (sym (take_all limit input few))
          (in_tile input (sym (fault_of_short limit input few) ∙ is))
