-- Document 02, C-18 and C-24: "comments, whether Callf shrinks, whether folds run". Every definition of a run takes the settings that it is asked
-- for, and every promise is stated once, over all of them.
use Rattle.std.specs.Prelude.{true, false}
use Rattle.rules.specs.declared.Settings.{Settings}

-- C-18: "By default, drop them from the output after all rewriting"
abbrev pub by_default : Settings
by_default = record { comments = false; callf = true; folds = true }

-- "the old behaviour is asked for by name": document 01's own
abbrev pub as_document01 : Settings
as_document01 = record { comments = true; callf = true; folds = true }
