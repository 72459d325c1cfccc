mod RingLaws
mod SceneLaws
