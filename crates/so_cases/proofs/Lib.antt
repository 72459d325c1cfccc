mod PlayLaws
