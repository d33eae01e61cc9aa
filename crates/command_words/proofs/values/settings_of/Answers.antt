use Rattle.command_words.proofs.Readings.{carried}
use Rattle.command_words.proofs.values.settings_of.Goals as goal

pub returns-in_err-setting : goal.returns-in_err-setting
returns-in_err-setting c =
    carried _ _ c.in_err-setting.field-0.0 c.from_residual-in_err-setting.result c.from_residual-in_err-setting.ensures.1 (λ settings h. (settings.fuel, h.fuel)) c.in_err-setting.ensures

pub returns-in_err-setting-2 : goal.returns-in_err-setting-2
returns-in_err-setting-2 c =
    carried _ _ c.in_err-setting-2.field-0.0 c.from_residual-in_err-setting-2.result c.from_residual-in_err-setting-2.ensures.1 (λ settings h. (settings.patience, h.patience)) c.in_err-setting-2.ensures
