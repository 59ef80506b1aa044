mod MadeLaws
