-- The version, the name and the extent of a layer, field by field, in any order.
use Rattle.std.proofs.Common.{◌≡◌, ℕ, ◌^◌, ◌<◌, Bool, true, false, List, [], ◌∷◌, ◌++◌, length, drop, Bor, Option, Some, None, refl, sym, ap, ◌∙◌, arith, append_assoc, append-nil, lit<, lit≤}
use Rattle.std.specs.Prelude.{IsUtf8}
use Rattle.mvt_base.proofs.ListLemmas.{all_joined}
use Rattle.mvt_wire.specs.Field.{varint, bytes}
use Rattle.mvt_wire.specs.Spelling.{IsFit, short_field, spelled}
use Rattle.mvt_feature.specs.Canonical.{plain}
use Rattle.mvt_feature.specs.Selection.{AreAlike, contents_at}
use Rattle.mvt_feature.proofs.FeatureLaws.{fields_in_any_order_between, fields_in_any_order_joined}
use Rattle.mvt_message.specs.declared.around.Around.{Around}
use Rattle.mvt_message.specs.declared.numbers.layer.TheConstants.{NAME, EXTENT, VERSION}
use Rattle.mvt_message.specs.Around.{AreAroundFrom, IsAround, IsOneMore, IsValidAround, around_fields, extent_option_fields, name_fields, version_fields}
use Rattle.mvt_message.specs.CanonicalItems.{extent_fields, head_fields}
use Rattle.mvt_message.proofs.CopyingLemmas.{fields_more}

-- the first name, extent and version
more_name : (v : Bool) (e : Option ℕ) (name : Bor (List ℕ))
    → AreAlike ((version_fields v ++ (name_fields None ++ extent_option_fields e)) ++ plain NAME (bytes name.now) ∷ [])
    (version_fields v ++ (name_fields (Some name) ++ extent_option_fields e))
more_name v e name =
    fields_in_any_order_between (version_fields v) (extent_option_fields e) (plain NAME (bytes name.now)) (no_name e)
  where
    no_name : (e : Option ℕ) → contents_at NAME (extent_option_fields e) ≡ []
    no_name None = refl
    no_name (Some n) = refl

more_extent : (v : Bool) (n : Option (Bor (List ℕ))) (extent : ℕ)
    → AreAlike ((version_fields v ++ (name_fields n ++ extent_option_fields None)) ++ plain EXTENT (varint extent) ∷ [])
    (version_fields v ++ (name_fields n ++ extent_option_fields (Some extent)))
more_extent v n extent k =
    let p = plain EXTENT (varint extent) in
    ap (λ ns. contents_at k ((version_fields v ++ ns) ++ p ∷ [])) (append-nil (name_fields n))
    ∙ ap (contents_at k) (append_assoc (version_fields v) (name_fields n) (p ∷ []))

more_version : (n : Option (Bor (List ℕ))) (e : Option ℕ)
    → AreAlike ((version_fields false ++ (name_fields n ++ extent_option_fields e)) ++ plain VERSION (varint 2) ∷ [])
    (version_fields true ++ (name_fields n ++ extent_option_fields e))
more_version n e =
    fields_in_any_order_between [] (name_fields n ++ extent_option_fields e) (plain VERSION (varint 2)) (no_version n e)
  where
    no_version : (n : Option (Bor (List ℕ))) (e : Option ℕ) → contents_at VERSION (name_fields n ++ extent_option_fields e) ≡ []
    no_version None None = refl
    no_version None (Some x) = refl
    no_version (Some y) None = refl
    no_version (Some y) (Some x) = refl

pub name_is : (body : List ℕ) (at end : ℕ) (name : Bor (List ℕ)) (before : Around) → before.name ≡ None
    → drop at body ≡ short_field NAME (bytes name.now) ++ drop end body → IsUtf8 name.now → length name.now < 2 ^ 63
    → IsOneMore body at before (record { has_version = before.has_version; name = Some name; extent = before.extent }) end
name_is body at end name before none stands text short =
    let p = plain NAME (bytes name.now) in
    let v = before.has_version in
    let e = before.extent in
    record {
      field = p;
      fit = record { first = lit≤ tt; last = lit< tt; content = omega (arith, short) };
      stands = stands;
      alike = λ k. ap (λ n. contents_at k ((version_fields v ++ (name_fields n ++ extent_option_fields e)) ++ p ∷ [])) none
          ∙ more_name v e name k;
      valid = λ valid. (text, valid.1);
    }

pub extent_is : (body : List ℕ) (at end extent : ℕ) (before : Around) → before.extent ≡ None
    → drop at body ≡ short_field EXTENT (varint extent) ++ drop end body → extent < 2 ^ 32
    → IsOneMore body at before (record { has_version = before.has_version; name = before.name; extent = Some extent }) end
extent_is body at end extent before none stands small =
    let p = plain EXTENT (varint extent) in
    let v = before.has_version in
    let n = before.name in
    record {
      field = p;
      fit = record { first = lit≤ tt; last = lit< tt; content = omega (arith, small) };
      stands = stands;
      alike = λ k. ap (λ e. contents_at k ((version_fields v ++ (name_fields n ++ extent_option_fields e)) ++ p ∷ [])) none
          ∙ more_extent v n extent k;
      valid = λ valid. (valid.0, small);
    }

pub version_is : (body : List ℕ) (at end : ℕ) (before : Around) → before.has_version ≡ false
    → drop at body ≡ short_field VERSION (varint 2) ++ drop end body
    → IsOneMore body at before (record { has_version = true; name = before.name; extent = before.extent }) end
version_is body at end before none stands =
    let p = plain VERSION (varint 2) in
    let n = before.name in
    let e = before.extent in
    record {
      field = p;
      fit = record { first = lit≤ tt; last = lit< tt; content = lit< tt };
      stands = stands;
      alike = λ k. ap (λ v. contents_at k ((version_fields v ++ (name_fields n ++ extent_option_fields e)) ++ p ∷ [])) none
          ∙ more_version n e k;
      valid = λ valid. valid;
    }

-- field by field
pub around_none : (body : List ℕ) (start : ℕ) (before : Around) → AreAroundFrom body start before before start
around_none body start before = record {
  fields = [];
  fit = tt;
  stand = refl;
  alike = λ k. ap (contents_at k) (append-nil (around_fields before));
  valid = λ valid. valid;
}

pub around_more : (body : List ℕ) (start at end : ℕ) (before so_far after : Around) → AreAroundFrom body start before so_far at
    → IsOneMore body at so_far after end → AreAroundFrom body start before after end
around_more body start at end before so_far after from one =
    let more = one.field ∷ [] in
    record {
      fields = from.fields ++ more;
      fit = all_joined IsFit from.fields more from.fit (one.fit, tt);
      stand = fields_more (drop start body) (drop at body) (drop end body) from.fields one.field from.stand one.stands;
      alike = λ k.
          ap (contents_at k) (sym (append_assoc (around_fields before) from.fields more))
          ∙ fields_in_any_order_joined k (around_fields before ++ from.fields) more
          ∙ ap (λ c. c ++ contents_at k more) (from.alike k)
          ∙ sym (fields_in_any_order_joined k (around_fields so_far) more) ∙ one.alike k;
      valid = λ valid. one.valid (from.valid valid);
    }

drop_all : (xs : List ℕ) → drop (length xs) xs ≡ []
drop_all [] = refl
drop_all (x ∷ xs) = drop_all xs

-- what stands in front and behind
pub around_is : (body name : List ℕ) (extent start end size : ℕ) (nothing head whole : Around)
    → nothing ≡ record { has_version = false; name = None; extent = None }
    → AreAroundFrom body 0 nothing head start → AreAroundFrom body end head whole size → size ≡ length body
    → around_fields whole ≡ head_fields name ++ extent_fields extent → (IsValidAround whole → IsUtf8 name × (extent < 2 ^ 32))
    → IsAround body name extent start end
around_is body name extent start end size nothing head whole none front behind last fields valid =
    let (text, small) = valid (behind.valid (front.valid (rw none (tt, tt)))) in
    record {
      head = front.fields;
      tail = behind.fields;
      head_fit = front.fit;
      tail_fit = behind.fit;
      begins = front.stand;
      ends = behind.stand ∙ ap (λ r. spelled behind.fields ++ r) (ap (λ n. drop n body) last ∙ drop_all body)
          ∙ append-nil (spelled behind.fields);
      alike = λ k.
          fields_in_any_order_joined k front.fields behind.fields
          ∙ ap (λ c. c ++ contents_at k behind.fields) (in_front k)
          ∙ sym (fields_in_any_order_joined k (around_fields head) behind.fields) ∙ behind.alike k ∙ ap (contents_at k) fields;
      text = text;
      small = small;
    }
  where
    in_front : (k : ℕ) → contents_at k front.fields ≡ contents_at k (around_fields head)
    in_front k = ap (λ a. contents_at k (around_fields a ++ front.fields)) (sym none) ∙ front.alike k

pub around_in_place : (body name : List ℕ) (extent start end : ℕ) → body ≡ spelled (head_fields name) ++ drop start body
    → drop end body ≡ spelled (extent_fields extent) → IsUtf8 name → length name < 2 ^ 63 → extent < 2 ^ 32
    → IsAround body name extent start end
around_in_place body name extent start end begins ends text short small = record {
  head = head_fields name;
  tail = extent_fields extent;
  head_fit = (
    record { first = lit≤ tt; last = lit< tt; content = lit< tt },
    (record { first = lit≤ tt; last = lit< tt; content = omega (arith, short) }, tt),
  );
  tail_fit = (record { first = lit≤ tt; last = lit< tt; content = omega arith }, tt);
  begins = begins;
  ends = ends;
  alike = λ k. refl;
  text = text;
  small = small;
}
