-- The command `mvt` as it is built.
use Rattle.std.proofs.Common.{◌≡◌, ℕ, List, [], Bor, Box, Global, true, false, Option, Some, None, IsSomeAnd, unwrap_or, ap, ap₂, ◌∙◌, codes}
use Rattle.std.specs.Box.{box_value}
use Rattle.std.specs.Option.{option_map}
use Rattle.clap.specs.Lexer.{usize_max}
use Rattle.clap.specs.Words.{App, Row, Rule, app_of, found_of, matched_of, new_rule, raw_values, rows_of, rule_of, subcommand_name_of, subcommand_rows, subcommand_rows_of, with_subcommand, AddsSubcommand}
use Rattle.clap.specs.declared.builder.action.ArgAction.TheVariants.{Append, SetTrue}
use Rattle.clap.specs.declared.builder.arg.Arg.{Arg}
use Rattle.clap.specs.declared.builder.command.Command.TheViews.{out-Command as fields_of}
use Rattle.clap.specs.declared.builder.command.Command.{Command}
use Rattle.clap.specs.declared.builder.range.ValueRange.{ValueRange}
use Rattle.clap.specs.declared.parser.matches.ArgMatches.{ArgMatches}
use Rattle.clap.specs.declared.parser.matches.ArgMatches.TheViews.{out-ArgMatches, out-SubCommand}
use Rattle.clap.specs.declared.parser.matches.Found.{Found}
use Rattle.clap.specs.declared.parser.matches.SubCommand.{SubCommand}
use Rattle.clap.proofs.WalkLemmas.{raw_values-rows}
use Rattle.mvt_words.specs.Words.{names_rule, files_rule, texts_given, version_rule}

pub added : (old sub new : Command) (a s : App) → AddsSubcommand old sub new → app_of old ≡ a → app_of sub ≡ s
    → (fields_of sub).has_globals ≡ false → app_of new ≡ with_subcommand a s.top
added old sub new a s adds old_is sub_is local = adds.shape local ∙ ap₂ with_subcommand old_is (ap (λ (x : App). x.top) sub_is)

pub given_range : (o : Option ValueRange) (r : ValueRange) → IsSomeAnd o (λ x. x ≡ r) → o ≡ Some r
given_range None r h = absurd h
given_range (Some x) r h = ap Some h

pub names_rule_is : (new acting many wanted helped : Arg) (o : Option ValueRange) (text : Option (Bor (List ℕ)))
    → rule_of new ≡ new_rule (codes "name")
    → acting ≡ record new { action = Some Append } → many ≡ record acting { num_vals = o }
    → o ≡ Some (record { start_inclusive = 1; end_inclusive = usize_max })
    → wanted ≡ record many { required = true } → helped ≡ record wanted { help = text } → rule_of helped ≡ names_rule
names_rule_is new acting many wanted helped o text new_is acting_is many_is range wanted_is helped_is =
    ap rule_of helped_is ∙ ap rule_of wanted_is
    ∙ ap (λ (r : Rule). record r { required = true })
    (ap rule_of many_is ∙ ap₂ (λ (r : Rule) (x : Option ValueRange). record r { range = x })
    (ap rule_of acting_is ∙ ap (λ (r : Rule). record r { action = Some Append }) new_is) range)

pub version_rule_is : (new long short acting helped : Arg) (l : Bor (List ℕ)) (text : Option (Bor (List ℕ)))
    → rule_of new ≡ new_rule (codes "version") → l.now ≡ codes "version"
    → long ≡ record new { long = Some l } → short ≡ record long { short = Some 86 }
    → acting ≡ record short { action = Some SetTrue } → helped ≡ record acting { help = text } → rule_of helped ≡ version_rule
version_rule_is new long short acting helped l text new_is l_is long_is short_is acting_is helped_is =
    ap rule_of helped_is ∙ ap rule_of acting_is
    ∙ ap (λ (r : Rule). record r { action = Some SetTrue })
    (ap rule_of short_is
    ∙ ap (λ (r : Rule). record r { short = Some 86 })
    (ap rule_of long_is ∙ ap₂ (λ (r : Rule) (t : List ℕ). record r { long = Some t }) new_is l_is))

pub files_rule_is : (new acting many helped : Arg) (o : Option ValueRange) (text : Option (Bor (List ℕ)))
    → rule_of new ≡ new_rule (codes "file")
    → acting ≡ record new { action = Some Append } → many ≡ record acting { num_vals = o }
    → o ≡ Some (record { start_inclusive = 1; end_inclusive = usize_max })
    → helped ≡ record many { help = text } → rule_of helped ≡ files_rule
files_rule_is new acting many helped o text new_is acting_is many_is range helped_is =
    ap rule_of helped_is
    ∙ (ap rule_of many_is ∙ ap₂ (λ (r : Rule) (x : Option ValueRange). record r { range = x })
    (ap rule_of acting_is ∙ ap (λ (r : Rule). record r { action = Some Append }) new_is) range)

pub texts_some : (f : Found) (key : List ℕ) (texts : List (List ℕ)) → Some texts ≡ option_map raw_values
    (matched_of f key) → texts ≡ texts_given key (rows_of f)
texts_some f key texts is = ap (λ o. unwrap_or o []) (is ∙ raw_values-rows f key)

pub texts_none : (f : Found) (key : List ℕ) → None ≡ option_map raw_values (matched_of f key) → [] ≡ texts_given key (rows_of f)
texts_none f key is = ap (λ o. unwrap_or o []) (is ∙ raw_values-rows f key)

pub entered_is : (m : ArgMatches) (name : List ℕ) (rows : List Row) → Some name ≡ subcommand_name_of m
    → Some rows ≡ option_map (λ p. p.1) (subcommand_rows_of m) → subcommand_rows_of m ≡ Some (name, rows)
entered_is m name rows = go (out-ArgMatches m).subcommand
  where
    go : (o : Option (Box SubCommand Global)) → Some name ≡ option_map (λ b. (out-SubCommand (box_value b)).name.now)
        o → Some rows ≡ option_map (λ p. p.1) (subcommand_rows o) → subcommand_rows o ≡ Some (name, rows)
    go None named given = cc
    go (Some b) named given =
        ap₂ (λ (n : List ℕ) (r : List Row). Some (n, r)) (let e : (out-SubCommand (box_value b)).name.now
        ≡ name = cc in e) (let e : rows_of (found_of (out-SubCommand (box_value b)).matches) ≡ rows = cc in e)
