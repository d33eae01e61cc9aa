use Rattle.std.proofs.Common.{◌≡◌, ◌∙◌, rules, ap, ap₂, subst, true, map, codes}
use Rattle.std.proofs.lemmas.Result.{IfOk-weaker}
use Rattle.clap.specs.Faults.{fault_of, is_simple_and_free}
use Rattle.clap.specs.Kinds.{FailsBy}
use Rattle.clap.specs.Simple.{App, Shape, app_of, app_of_fields, is_simple, matches_of, new_app, on_top, with_rule}
use Rattle.clap.specs.Walk.{rule_of}
use Rattle.command_words.specs.App.{line_app, plain_app, positional_rule}
use Rattle.command_words.proofs.command_line.parse.Goals as goal

abbrev unnamed : App → App
unnamed = on_top (λ (shape : Shape). record shape { no_binary_name = true })

abbrev unhelped : App → App
unhelped = on_top (λ (shape : Shape). record shape { disable_help_flag = true })

abbrev unversioned : App → App
unversioned = on_top (λ (shape : Shape). record shape { disable_version_flag = true })

pub returns : goal.returns
returns c =
    let words = map (λ word. word.now) c.args.words.now in
    let command_is : rule_of c.action-command.result ≡ positional_rule = search rules in
    let unnamed_is : app_of c.no_binary_name.result ≡ unnamed (new_app (codes "stride"))
    = ap app_of_fields c.no_binary_name.ensures ∙ ap unnamed c.new-2.ensures.app in
    let unhelped_is : app_of c.disable_help_flag.result ≡ unhelped (unnamed (new_app (codes "stride")))
    = ap app_of_fields c.disable_help_flag.ensures ∙ ap unhelped unnamed_is in
    let plain_is : app_of c.disable_version_flag.result ≡ plain_app
    = ap app_of_fields c.disable_version_flag.ensures ∙ ap unversioned unhelped_is in
    let app_is : app_of c.in_ok-arg-3.field-0 ≡ line_app
    = c.in_ok-arg-3.ensures.shape (search rules) ∙ ap₂ with_rule (c.in_ok-arg-2.ensures.shape c.option_of-2.ensures.global
    ∙ ap₂ with_rule (c.in_ok-arg.ensures.shape c.option_of.ensures.global ∙ ap₂ with_rule plain_is c.option_of.ensures.rule) c.option_of-2.ensures.rule) command_is in
    let parse = c.try_get_matches_from in
    record {
      matches = IfOk-weaker parse.result _ _ (λ m h. (h (ap is_simple app_is)).0 ∙ ap (λ app. matches_of app words) app_is) parse.ensures.matches;
      kinds = subst (λ (app : App). FailsBy (fault_of app words) parse.result) app_is (parse.ensures.kinds (ap is_simple_and_free app_is));
    }
